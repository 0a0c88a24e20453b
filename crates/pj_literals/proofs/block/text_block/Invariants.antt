use Rattle.std.proofs.Common.{◌≡◌, ◌++◌, length, map}
use Rattle.pj_literals.specs.Lines.{further_lines}
use Rattle.pj_literals.specs.TextBlock.{stripped, text_block}
use Rattle.pj_literals.proofs.block.text_block.Given as goal

abbrev pub invariant-loop-line : goal.invariant-loop-line
invariant-loop-line l = text_block l.word ≡ l.made.items ++ further_lines (map (λ line. stripped l.indentation line) l.lines)

abbrev pub decreases-loop-line : goal.decreases-loop-line
decreases-loop-line l = length l.lines
