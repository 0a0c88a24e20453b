use Rattle.std.proofs.Common.{◌≡◌, ◌≤◌}
use Rattle.pj_declared.specs.Bodies.{class_at}
use Rattle.pj_declared.proofs.bodies.class_at.Given as goal

abbrev pub invariant-loop-at : goal.invariant-loop-at
invariant-loop-at l = (l.at.0 ≤ l.fn.place.0) × (class_at l.tree l.at ≡ class_at l.tree l.fn.place)

abbrev pub decreases-loop-at : goal.decreases-loop-at
decreases-loop-at l = l.at.0
