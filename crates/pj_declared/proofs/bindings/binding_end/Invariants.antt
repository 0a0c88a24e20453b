use Rattle.std.proofs.Common.{◌≡◌, ◌<◌, length}
use Rattle.pj_declared.specs.Bindings.{binding_end}
use Rattle.pj_declared.proofs.bindings.binding_end.Given as goal

abbrev pub invariant-loop-around : goal.invariant-loop-around
invariant-loop-around l = (l.at.0 < length l.tree.nodes) × (binding_end l.tree l.at ≡ binding_end l.tree l.fn.pattern)

abbrev pub decreases-loop-around : goal.decreases-loop-around
decreases-loop-around l = l.at.0
