use Rattle.std.proofs.Common.{◌≡◌, length}
use Rattle.pj_literals.specs.TextBlock.{common_indentation}
use Rattle.pj_literals.proofs.BlockLaws.{left_indentation}
use Rattle.pj_literals.proofs.block.common_indentation.Given as goal

abbrev pub invariant-loop-line : goal.invariant-loop-line
invariant-loop-line l = common_indentation l.fn.lines ≡ left_indentation l.least l.lines

abbrev pub decreases-loop-line : goal.decreases-loop-line
decreases-loop-line l = length l.lines
