use Rattle.std.proofs.Common.{◌≡◌}
use Rattle.pj_declared.specs.Imports.{imports_below}
use Rattle.pj_declared.proofs.imports.imports_of.Given as goal

abbrev pub invariant-loop-n : goal.invariant-loop-n
invariant-loop-n l = l.rows.items ≡ imports_below l.tree l.sort l.n
