use Rattle.std.proofs.Common.{arith}
use Rattle.pj_peg.proofs.Columns.{kinds_more, kinds_all}
use Rattle.pj_peg.proofs.slots.slots_by_kind.Goals as goal

pub loop-kind-preserved : goal.loop-kind-preserved
loop-kind-preserved c = kinds_more c.args.program.now c.loop-kind.all.items c.push.new.self.items c.in_ok-slots.slots c.loop-kind.kind c.loop-kind.invariant c.in_ok-slots.ensures c.in_ok-push.ensures.items

pub returns : goal.returns
returns c = kinds_all c.args.program.now c.loop-kind.all.items c.loop-kind.kind c.loop-kind.invariant (omega (arith, c.loop-kind-test.false, c.loop-kind.auto.kind-end))
