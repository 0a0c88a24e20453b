-- How many bytes texts take.
use Rattle.std.proofs.Common.{◌≡◌, ℕ, ◌+◌, List, ◌++◌, length, ap, ◌∙◌, length-append}
use Rattle.std.proofs.lemmas.Str.{encodes-append}
use lib.Utf8.{encodes}
use Rattle.pj_xtokens.specs.Size.{size}

-- a text takes the bytes of its front, and those of what stands behind it
pub size-append : (v w : List ℕ) → size (v ++ w) ≡ size v + size w
size-append v w = ap length (encodes-append v w) ∙ length-append (encodes v) (encodes w)
