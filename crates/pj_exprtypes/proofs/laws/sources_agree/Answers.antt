use Rattle.pj_names.specs.Expand.{expand}
use Rattle.pj_names.proofs.MeaningLaws.{agreement}
use Rattle.pj_file_oracle.specs.FileAnswer.{file_answer}
use Rattle.pj_exprtypes.specs.TypeOf.{type_of}
use Rattle.pj_exprtypes.proofs.laws.sources_agree.Goals as goal

pub returns : goal.returns
returns c = λ first second t n. agreement first second (expand (file_answer t) (type_of t n))
