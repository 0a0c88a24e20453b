-- How many bytes texts take.
use Rattle.std.proofs.Common.{◌≡◌, ℕ, ◌+◌, List, ◌++◌, length, sym, ap, ◌∙◌, length-append}
use Rattle.std.specs.Str.{chars, IsUtf8}
use Rattle.std.proofs.lemmas.Str.{encodes-chars, encodes-append}
use lib.Utf8.{encodes}
use Rattle.pj_xtokens.specs.Size.{size}

-- a text takes its bytes
pub size_chars : (s : List ℕ) → IsUtf8 s → length s ≡ size (chars s)
size_chars s u = ap length (sym (encodes-chars s u))

-- and those of what stands behind it
pub size-append : (v w : List ℕ) → size (v ++ w) ≡ size v + size w
size-append v w = ap length (encodes-append v w) ∙ length-append (encodes v) (encodes w)
