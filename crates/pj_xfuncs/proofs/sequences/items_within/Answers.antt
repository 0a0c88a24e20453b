use Rattle.std.proofs.Common.{◌≡◌, ◌∙◌, ℕ, List, drop, take, sym, ap, ap₂}
use Rattle.std.proofs.lemmas.Int.{to_z-of_z}
use Rattle.std.specs.List.{drop-map, take-map}
use mir.Syntax.{w64}
use mir.Val.{of_z, to_z}
use Rattle.pj_xvalue.specs.declared.item.Item.{Item}
use Rattle.pj_xvalue.specs.Items.{ItemValue, value_of_item, values_of}
use Rattle.pj_xfuncs.specs.Places.{places_before, places_within}
use Rattle.pj_xfuncs.proofs.PlaceFacts.{within-places}
use Rattle.pj_xfuncs.proofs.sequences.items_within.Goals as goal

pub returns : goal.returns
returns c =
    let items = c.args.items.now in
    let before = places_before c.args.first in
    let count = places_within c.args.first c.args.number in
    let first : to_z w64 (of_z w64 c.args.first) ≡ c.args.first = to_z-of_z w64 c.args.first c.ranges.first in
    let number : to_z w64 (of_z w64 c.args.number) ≡ c.args.number = to_z-of_z w64 c.args.number c.ranges.number in
    ap values_of (c.in_ok-kept.ensures ∙ c.first_of-part.ensures
    ∙ ap₂ (λ (n : ℕ) (xs : List Item). take n xs) (c.within-count.ensures ∙ ap₂ places_within first number) (c.behind-rest.ensures ∙ ap (λ (n : ℕ). drop n items) (c.before-skipped.ensures ∙ ap places_before first)))
    ∙ sym (take-map value_of_item count (drop before items)) ∙ ap (λ (xs : List ItemValue). take count xs) (sym (drop-map value_of_item before items))
    ∙ sym (within-places c.args.first c.args.number (values_of items))
