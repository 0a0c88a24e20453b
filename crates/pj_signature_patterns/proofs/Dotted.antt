-- Identifiers with dots between them, read one after another.
use Rattle.std.proofs.Common.{◌≡◌, ℕ, Bool, true, false, List, ap, refl, sym, ◌∙◌}
use Rattle.std.specs.Prelude.{◌&&◌, None}
use Rattle.std.specs.List.{list_all}
use Rattle.pj_signature_patterns.specs.Cuts.{cut}
use Rattle.pj_signature_patterns.specs.Identifiers.{is_identifier}
use Rattle.pj_signature_patterns.specs.TypeNames.{is_qualified}
use Rattle.pj_signature_patterns.proofs.Cutting.{split_whole}

alone : (b : Bool) → b ≡ (b && true)
alone true = refl
alone false = refl

-- the last one, behind which no dot stands
pub last_one : (left : List ℕ) → cut 46 left ≡ None → is_identifier left ≡ is_qualified left
last_one left e = alone (is_identifier left) ∙ ap (list_all is_identifier) (sym (split_whole 46 left e))
