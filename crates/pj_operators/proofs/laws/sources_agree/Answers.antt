use Rattle.pj_names.proofs.MeaningLaws.{agreement}
use Rattle.pj_operators.specs.Conditional.{conditional_type}
use Rattle.pj_operators.proofs.laws.sources_agree.Goals as goal

pub returns : goal.returns
returns c = λ first second ty other. agreement first second (conditional_type ty other)
