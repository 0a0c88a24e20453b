use Rattle.std.proofs.Common.{◌∙◌, arith}
use Rattle.pj_peg.proofs.Columns.{slots_out, slots_more, slots_all}
use Rattle.pj_peg.proofs.slots.slots_for.Goals as goal

pub loop-column-preserved-then-is_out : goal.loop-column-preserved-then-is_out
loop-column-preserved-then-is_out c =
    slots_out c.args.program.now c.args.kind c.loop-column.slots.items c.push.new.self.items c.loop-column.width c.loop-column.column c.loop-column.invariant c.new.result c.new.ensures c.in_ok-push.ensures.items c.if-is_out.ensures

pub loop-column-preserved : goal.loop-column-preserved
loop-column-preserved c =
    slots_more c.args.program.now c.args.kind c.loop-column.slots.items c.push-in-loop-column.new.self.items c.loop-column.width c.loop-column.column c.loop-column.invariant c.new-in-loop-column.result c.new-in-loop-column.ensures c.in_ok-push-2.ensures.items

pub returns : goal.returns
returns c =
    let roots = c.len.ensures ∙ c.args.program.now.roots.ok.0 in
    let stars = c.len-2.ensures ∙ c.args.program.now.stars.ok.0 in
    slots_all c.args.program.now c.args.kind _ c.loop-column.column c.loop-column.invariant (omega (arith, roots, stars, c.loop-column-test.false, c.loop-column.auto.column-end))
