use Rattle.std.proofs.Common.{◌≡◌, ◌∙◌, ℕ, List, drop, take, sym, ap, ap₂}
use Rattle.std.proofs.lemmas.Int.{to_z-of_z}
use Rattle.std.specs.Str.{encode_utf8_all}
use mir.Syntax.{w64}
use mir.Val.{of_z, to_z}
use Rattle.pj_xfuncs.specs.Places.{places_before, places_within}
use Rattle.pj_xfuncs.proofs.PlaceFacts.{within-places}
use Rattle.pj_xfuncs.proofs.characters.text_within.Goals as goal

pub returns : goal.returns
returns c =
    let first : to_z w64 (of_z w64 c.args.first) ≡ c.args.first = to_z-of_z w64 c.args.first c.ranges.first in
    let number : to_z w64 (of_z w64 c.args.number) ≡ c.args.number = to_z-of_z w64 c.args.number c.ranges.number in
    c.in_ok-text.ensures ∙ ap encode_utf8_all (c.first_of-part.ensures
    ∙ ap₂ (λ (n : ℕ) (xs : List ℕ). take n xs) (c.within-count.ensures ∙ ap₂ places_within first number) (c.behind-rest.ensures ∙ ap (λ (n : ℕ). drop n c.args.characters.now) (c.before-skipped.ensures ∙ ap places_before first))
    ∙ sym (within-places c.args.first c.args.number c.args.characters.now))
