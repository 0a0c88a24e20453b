use Rattle.std.proofs.Common.{◌≡◌, ◌∙◌, ℕ, drop, sym, ap}
use Rattle.std.proofs.lemmas.Int.{to_z-of_z}
use Rattle.std.specs.List.{drop-map}
use mir.Syntax.{w64}
use mir.Val.{of_z, to_z}
use Rattle.pj_xvalue.specs.Items.{value_of_item, values_of}
use Rattle.pj_xfuncs.specs.Places.{places_before}
use Rattle.pj_xfuncs.proofs.PlaceFacts.{from-places}
use Rattle.pj_xfuncs.proofs.sequences.items_from.Goals as goal

pub returns : goal.returns
returns c =
    let items = c.args.items.now in
    let first : to_z w64 (of_z w64 c.args.first) ≡ c.args.first = to_z-of_z w64 c.args.first c.ranges.first in
    ap values_of (c.in_ok-kept.ensures ∙ c.behind-part.ensures ∙ ap (λ (n : ℕ). drop n items) (c.before-skipped.ensures ∙ ap places_before first))
    ∙ sym (drop-map value_of_item (places_before c.args.first) items) ∙ sym (from-places c.args.first (values_of items))
