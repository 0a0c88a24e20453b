use Rattle.std.proofs.Common.{◌≡◌, length}
use Rattle.pj_literals.specs.TextBlock.{without_trailing, stripped}
use Rattle.pj_literals.proofs.block.stripped.Given as goal

abbrev pub invariant-loop-last : goal.invariant-loop-last
invariant-loop-last l = stripped l.indentation l.line ≡ without_trailing l.left

abbrev pub decreases-loop-last : goal.decreases-loop-last
decreases-loop-last l = length l.left
