use Rattle.std.proofs.Common.{◌≡◌, ◌≤◌, ◌-◌}
use Rattle.pj_xaxes.specs.Axes.{on_axis}
use Rattle.pj_xaxes.specs.Search.{picked}
use Rattle.pj_xaxes.proofs.search.last_between.Given as goal

abbrev pub invariant-loop-to : goal.invariant-loop-to
invariant-loop-to l =
    (l.to ≤ l.high) × (picked (on_axis l.tree l.axis l.n) l.low (l.high - l.low) ≡ picked (on_axis l.tree l.axis l.n) l.low (l.to - l.low))

abbrev pub decreases-loop-to : goal.decreases-loop-to
decreases-loop-to l = l.to
