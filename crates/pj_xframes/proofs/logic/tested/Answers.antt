use Rattle.std.proofs.Common.{Bool, Result, ap}
use Rattle.pj_xvalue.specs.declared.fault.XCode.{XCode}
use Rattle.pj_xsteps.specs.Means.{◌>>=◌, give, judged, one_boolean}
use Rattle.pj_xframes.proofs.ListGoals.{goes-same}
use Rattle.pj_xframes.proofs.logic.tested.Goals as goal

pub returns-clause-goes : goal.returns-clause-goes
returns-clause-goes c = λ a reply at s.
    goes-same a reply at s at s c.boolean.result _ _
    (ap (λ (tested : Result Bool XCode). judged tested >>= λ truth. give (one_boolean truth)) c.in_ok-truth.ensures)
    (c.boolean.ensures.goes a reply at s)
