use Rattle.std.proofs.Common.{◌≡◌}
use Rattle.pj_symbols.specs.Symbols.{classes_below, variables_below}
use Rattle.pj_symbols.proofs.symbols.Symbols.of.Given as goal

abbrev pub invariant-loop-n : goal.invariant-loop-n
invariant-loop-n l = (l.classes.items ≡ classes_below l.tree l.n) × (l.variables.items ≡ variables_below l.tree l.n)
