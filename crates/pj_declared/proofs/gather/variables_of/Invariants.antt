use Rattle.std.proofs.Common.{◌≡◌}
use Rattle.pj_declared.specs.Rows.{variables_below}
use Rattle.pj_declared.proofs.gather.variables_of.Given as goal

abbrev pub invariant-loop-n : goal.invariant-loop-n
invariant-loop-n l = l.rows.items ≡ variables_below l.tree l.n
