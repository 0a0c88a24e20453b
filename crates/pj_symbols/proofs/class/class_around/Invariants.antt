use Rattle.std.proofs.Common.{◌≡◌, ◌≤◌}
use Rattle.pj_symbols.specs.Classes.{class_around, around_name}
use Rattle.pj_symbols.proofs.class.class_around.Given as goal

abbrev pub invariant-loop-above : goal.invariant-loop-above
invariant-loop-above l = (l.at.0 ≤ l.fn.n.0) × (class_around l.tree l.at ≡ class_around l.tree l.fn.n) × (around_name l.tree l.at ≡ around_name l.tree l.fn.n)

abbrev pub decreases-loop-above : goal.decreases-loop-above
decreases-loop-above l = l.at.0
