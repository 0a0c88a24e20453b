use Rattle.pj_names.specs.Expand.{expand}
use Rattle.pj_names.proofs.MeaningLaws.{agreement}
use Rattle.pj_file_oracle.specs.FileAnswer.{file_answer}
use Rattle.pj_javafuncs.specs.Replies.{reply}
use Rattle.pj_javafuncs.proofs.laws.sources_agree.Goals as goal

pub returns : goal.returns
returns c = λ first second known t function at arguments. agreement first second (expand (file_answer t) (reply known t function at arguments))
