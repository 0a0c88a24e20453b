use Rattle.pj_names.proofs.MeaningLaws.{agreement}
use Rattle.pj_type_names.specs.TypeName.{type_name, written_bound, written_type}
use Rattle.pj_type_names.proofs.laws.sources_agree.Goals as goal

pub returns-clause-names : goal.returns-clause-names
returns-clause-names c = λ first second t place text. agreement first second (type_name t place text)

pub returns-clause-written : goal.returns-clause-written
returns-clause-written c = λ first second t busy behind n. agreement first second (written_type t busy behind n)

pub returns-clause-bounds : goal.returns-clause-bounds
returns-clause-bounds c = λ first second t busy n. agreement first second (written_bound t busy n)
