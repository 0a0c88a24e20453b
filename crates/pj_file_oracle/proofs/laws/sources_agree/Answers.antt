use Rattle.pj_names.proofs.MeaningLaws.{agreement}
use Rattle.pj_file_oracle.specs.FileAnswer.{file_answer}
use Rattle.pj_file_oracle.proofs.laws.sources_agree.Goals as goal

pub returns : goal.returns
returns c = λ first second t name. agreement first second (file_answer t name)
