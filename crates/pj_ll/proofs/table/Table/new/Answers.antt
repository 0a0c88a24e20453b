use Rattle.std.proofs.Common.{◌≡◌, ◌∙◌, sym, ap, subst, arith, take, length, Some, map, refl}
use Rattle.std.specs.Prelude.{slice_get}
use Rattle.std.specs.Option.{option_map}
use Rattle.std.proofs.lemmas.List.{length-map}
use Rattle.std.proofs.lemmas.Option.{slice_get-map, slice_get_read}
use Rattle.pj_ll.specs.Entries.{entry_of}
use Rattle.pj_ll.specs.Table.{AreChoices, AddsChoices, row_at}
use Rattle.pj_ll.proofs.Lists.{take_push, length_take}
use Rattle.pj_ll.proofs.Choices.{are_more}
use Rattle.pj_ll.proofs.table.Table.new.Goals as goal

pub loop-number-preserved : goal.loop-number-preserved
loop-number-preserved c =
    let items = c.in_ok-productions.productions.items in
    let all = map entry_of items in
    let k = c.loop-number.number in
    let production = c.index.result.now in
    let x = entry_of production in
    let rows = c.add_production.new.rows.items in
    let old = c.loop-number.rows.items in
    let len = length-map items entry_of in
    let count : length (take k all) ≡ k = length_take k all (omega arith) in
    let at : slice_get all k ≡ Some x =
    slice_get-map entry_of items k ∙ ap (option_map entry_of) (slice_get_read items (length items) k production refl (omega arith) c.index.ensures) in
    subst (λ l. AreChoices l rows) (sym (take_push all k x at))
    (are_more (take k all) x old rows c.loop-number.invariant
    (subst (λ n. AddsChoices production.on.items production.at_end n (row_at old production.rule) (row_at rows production.rule)) (sym count)
    c.in_ok-add_production.ensures.here)
    c.in_ok-add_production.ensures.others)
