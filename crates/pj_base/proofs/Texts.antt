-- Texts by bytes and by characters.
use Rattle.std.proofs.Common.{◌≡◌, ℕ, List, ap, sym, ◌∙◌}
use Rattle.std.specs.Prelude.{nat_eq}
use Rattle.std.specs.Cmp.Lexicographic.{pointwise}
use Rattle.std.specs.Str.{chars, IsUtf8}
use Rattle.std.proofs.lemmas.Bool.Decides.{same_from_decides}
use Rattle.std.proofs.lemmas.Slice.Eq.{bytes_eq-Decides}
use Rattle.std.proofs.lemmas.Str.{encodes-chars}
use lib.Utf8.{encodes}

-- texts with the same characters are the same
pub from_chars : (text other : List ℕ) → IsUtf8 text → IsUtf8 other → chars text ≡ chars other → text ≡ other
from_chars text other u v e = sym (encodes-chars text u) ∙ ap encodes e ∙ encodes-chars other v

-- they are compared by bytes as by characters
pub same_by_chars : (text other : List ℕ) → IsUtf8 text → IsUtf8 other → pointwise nat_eq text other ≡ pointwise nat_eq (chars text) (chars other)
same_by_chars text other u v =
    let bytes = bytes_eq-Decides text other in
    let characters = bytes_eq-Decides (chars text) (chars other) in
    same_from_decides (pointwise nat_eq text other) (pointwise nat_eq (chars text) (chars other)) bytes
    ((λ h. from_chars text other u v (characters.0 h)), (λ e. characters.1 (ap chars e)))
