use Rattle.pj_names.proofs.MeaningLaws.{agreement}
use Rattle.pj_members.specs.Fields.{find_field}
use Rattle.pj_members.specs.Methods.{methods_named}
use Rattle.pj_members.specs.Receivers.{field_of_receiver, methods_of_receiver, supertype_of_receiver}
use Rattle.pj_members.proofs.laws.sources_agree.Goals as goal

pub returns-clause-fields : goal.returns-clause-fields
returns-clause-fields c = λ first second class name. agreement first second (find_field class name)

pub returns-clause-methods : goal.returns-clause-methods
returns-clause-methods c = λ first second class name. agreement first second (methods_named class name)

pub returns-clause-receiver_fields : goal.returns-clause-receiver_fields
returns-clause-receiver_fields c = λ first second class arguments name. agreement first second (field_of_receiver class arguments name)

pub returns-clause-receiver_methods : goal.returns-clause-receiver_methods
returns-clause-receiver_methods c = λ first second class arguments name. agreement first second (methods_of_receiver class arguments name)

pub returns-clause-supertypes : goal.returns-clause-supertypes
returns-clause-supertypes c = λ first second class arguments wanted. agreement first second (supertype_of_receiver class arguments wanted)
