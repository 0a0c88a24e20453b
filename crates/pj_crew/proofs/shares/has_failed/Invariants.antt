use Rattle.std.proofs.Common.{◌<◌, ℕ, get_or}
use Rattle.std.specs.Prelude.{Result}
use Rattle.pj_names.specs.declared.oracle.AskFault.{AskFault}
use Rattle.pj_seats.specs.declared.worker.Share.{Share}
use Rattle.pj_crew.specs.Crew.{HasNotFailed}
use Rattle.pj_crew.proofs.shares.has_failed.Given as goal

abbrev pub invariant-loop-end : goal.invariant-loop-end
invariant-loop-end g l = (k : ℕ) (d : Result (Share g.row.M.Denot) AskFault) → k < l.end-index → HasNotFailed (get_or l.ends k d)
