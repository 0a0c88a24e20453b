use Rattle.std.proofs.Common.{ℕ, ◌<◌, ◌∙◌, length, ap, arith, get_or, refl, subst}
use Rattle.std.proofs.lemmas.Option.{slice_get_read}
use Rattle.pj_peg.specs.declared.slots.KindSlots.{KindSlots}
use Rattle.pj_peg.specs.Slots.{row_number}
use Rattle.pj_peg.proofs.Cells.{unknown_more, unknown_cells}
use Rattle.pj_peg.proofs.Columns.{row_small}
use Rattle.pj_peg.proofs.table.Table.new.Goals as goal

pub loop-place-preserved : goal.loop-place-preserved
loop-place-preserved c =
    let small = row_small c.args.kinds.now c.loop-place.place in
    let lt : row_number c.args.kinds.now c.loop-place.place < length c.args.slots.now = omega (arith, small, c.requires.slots) in
    let at = slice_get_read c.args.slots.now (length c.args.slots.now) (row_number c.args.kinds.now c.loop-place.place) c.index-slots-row_number.result refl lt
    (c.index-slots-row_number.is ∙ ap (λ (n : ℕ). get_or c.args.slots.now n c.index-slots-row_number.result) c.row_number.ensures) in
    unknown_more c.args.kinds.now c.args.slots.now c.loop-place.rows.items c.push.new.self.items c.in_ok-row.row c.loop-place.place c.index-slots-row_number.result c.loop-place.invariant c.in_ok-push.ensures.items at
    (λ s lt. c.in_ok-row.ensures s (subst (λ (x : KindSlots). s < x.width) c.index-slots-row_number.is lt))

pub returns : goal.returns
returns c i s row within at lt = unknown_cells c.args.kinds.now c.args.slots.now c.loop-place.rows.items c.loop-place.place c.loop-place.invariant i s row (omega (arith, within, c.loop-place-test.false)) at lt
