use Rattle.pj_names.proofs.MeaningLaws.{agreement}
use Rattle.pj_overload.specs.Choosing.{choose}
use Rattle.pj_overload.proofs.laws.sources_agree.Goals as goal

pub returns : goal.returns
returns c = λ first second methods types functions. agreement first second (choose methods types functions)
