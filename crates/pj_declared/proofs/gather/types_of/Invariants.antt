use Rattle.std.proofs.Common.{◌≡◌}
use Rattle.pj_declared.specs.Rows.{types_below}
use Rattle.pj_declared.proofs.gather.types_of.Given as goal

abbrev pub invariant-loop-n : goal.invariant-loop-n
invariant-loop-n l = l.rows.items ≡ types_below l.tree l.n
