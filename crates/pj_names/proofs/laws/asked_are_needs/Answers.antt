use Rattle.pj_names.proofs.AskingLaws.{asked_after-names}
use Rattle.pj_names.proofs.laws.asked_are_needs.Goals as goal

pub returns : goal.returns
returns g c = λ depth world asked meaning. asked_after-names depth world asked meaning
