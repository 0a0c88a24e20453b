use Rattle.pj_names.proofs.AskingLaws.{asks-then}
use Rattle.pj_calls.proofs.constructors.invoked_constructors.Goals as goal

pub returns : goal.returns
returns g c = asks-then _ c.in_ok-ty.ensures c.constructors_of.ensures
