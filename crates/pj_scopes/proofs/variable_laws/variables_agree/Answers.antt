use Rattle.pj_names.proofs.MeaningLaws.{agreement}
use Rattle.pj_scopes.specs.VariableName.{variable_name}
use Rattle.pj_scopes.proofs.variable_laws.variables_agree.Goals as goal

pub returns : goal.returns
returns c = λ first second t place name. agreement first second (variable_name t place name)
