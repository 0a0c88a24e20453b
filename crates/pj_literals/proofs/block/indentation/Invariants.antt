use Rattle.std.proofs.Common.{◌≡◌, ℕ, ◌<◌, true, get_or}
use Rattle.pj_literals.specs.TextBlock.{is_white_space}
use Rattle.pj_literals.proofs.block.indentation.Given as goal

abbrev pub invariant-loop-i : goal.invariant-loop-i
invariant-loop-i l = (k : ℕ) → k < l.i → is_white_space (get_or l.line k 0) ≡ true
