use Rattle.std.proofs.Common.{◌≡◌, ◌++◌, length}
use Rattle.pj_exprtypes.specs.Order.{visits}
use Rattle.pj_exprtypes.proofs.order.put_visits.Given as goal

abbrev pub invariant-loop-n : goal.invariant-loop-n
invariant-loop-n l = l.all ++ visits l.before l.left l.rest ≡ l.fn.all ++ visits l.before l.left l.fn.nodes

abbrev pub decreases-loop-n : goal.decreases-loop-n
decreases-loop-n l = length l.rest
