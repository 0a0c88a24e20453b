use Rattle.std.proofs.Common.{◌≡◌, ◌≤◌, ◌-◌}
use Rattle.pj_xaxes.specs.Axes.{on_axis}
use Rattle.pj_xaxes.specs.Search.{picked}
use Rattle.pj_xaxes.proofs.search.first_between.Given as goal

abbrev pub invariant-loop-from : goal.invariant-loop-from
invariant-loop-from l =
    (l.low ≤ l.from) × (picked (on_axis l.tree l.axis l.n) l.low (l.high - l.low) ≡ picked (on_axis l.tree l.axis l.n) l.from (l.high - l.from))

abbrev pub decreases-loop-from : goal.decreases-loop-from
decreases-loop-from l = l.high - l.from
