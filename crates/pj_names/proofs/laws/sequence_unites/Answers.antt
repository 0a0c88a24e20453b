use Rattle.pj_names.proofs.MeaningLaws.{over-bind}
use Rattle.pj_names.proofs.laws.sequence_unites.Goals as goal

pub returns : goal.returns
returns g c = λ depth source first next. over-bind depth source first next
