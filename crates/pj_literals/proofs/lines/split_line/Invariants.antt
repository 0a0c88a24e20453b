use Rattle.pj_literals.proofs.LineLaws.{Reached}
use Rattle.pj_literals.proofs.lines.split_line.Given as goal

abbrev pub invariant-loop-i : goal.invariant-loop-i
invariant-loop-i l = Reached l.text l.i
