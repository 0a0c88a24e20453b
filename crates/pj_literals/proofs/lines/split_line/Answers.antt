use Rattle.std.proofs.Common.{arith}
use Rattle.pj_literals.proofs.LineLaws.{reached_none, reached_more}
use Rattle.pj_literals.proofs.lines.split_line.Goals as goal

pub loop-i-init : goal.loop-i-init
loop-i-init c = reached_none c.args.text.now

pub loop-i-preserved : goal.loop-i-preserved
loop-i-preserved c = reached_more c.args.text.now c.loop-i.i c.index-text-i.result (omega arith) c.index-text-i.is c.if-c-eq10.false c.if-c-eq13.false c.loop-i.invariant
