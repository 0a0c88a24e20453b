use Rattle.pj_names.proofs.MeaningLaws.{agreement}
use Rattle.pj_receivers.specs.Elements.{iterated}
use Rattle.pj_receivers.specs.Fields.{field_of, member_class}
use Rattle.pj_receivers.proofs.laws.sources_agree.Goals as goal

pub returns-clause-fields : goal.returns-clause-fields
returns-clause-fields c = λ first second t name receiver. agreement first second (field_of t name receiver)

pub returns-clause-classes : goal.returns-clause-classes
returns-clause-classes c = λ first second t class name. agreement first second (member_class t class name)

pub returns-clause-elements : goal.returns-clause-elements
returns-clause-elements c = λ first second ty. agreement first second (iterated ty)
