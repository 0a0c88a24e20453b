use Rattle.pj_names.specs.Expand.{expand}
use Rattle.pj_names.proofs.MeaningLaws.{agreement}
use Rattle.pj_file_oracle.specs.FileAnswer.{file_answer}
use Rattle.pj_scopes.specs.VariableName.{variable_name}
use Rattle.pj_scopes.proofs.laws.sources_agree.Goals as goal

pub returns : goal.returns
returns c = λ first second t place name. agreement first second (expand (file_answer t) (variable_name t place name))
