use Rattle.std.proofs.Common.{◌≡◌, ◌∙◌, ℕ, drop, sym, ap}
use Rattle.std.proofs.lemmas.Int.{to_z-of_z}
use Rattle.std.specs.Str.{encode_utf8_all}
use mir.Syntax.{w64}
use mir.Val.{of_z, to_z}
use Rattle.pj_xfuncs.specs.Places.{places_before}
use Rattle.pj_xfuncs.proofs.PlaceFacts.{from-places}
use Rattle.pj_xfuncs.proofs.characters.text_from.Goals as goal

pub returns : goal.returns
returns c =
    let first : to_z w64 (of_z w64 c.args.first) ≡ c.args.first = to_z-of_z w64 c.args.first c.ranges.first in
    c.in_ok-text.ensures ∙ ap encode_utf8_all (c.behind-part.ensures ∙ ap (λ (n : ℕ). drop n c.args.characters.now) (c.before-skipped.ensures ∙ ap places_before first) ∙ sym (from-places c.args.first c.args.characters.now))
