-- The tokens of words with a space behind each.
use Rattle.std.proofs.Common.{◌≡◌, ℕ, ◌+◌, List, [], ◌∷◌, ◌++◌, refl, arith}
use lib.Utf8.{encode}
use Rattle.pj_xtokens.specs.Gaps.{Past, here, white}
use Rattle.pj_xtokens.specs.Size.{size}
use Rattle.pj_xtokens.specs.Tokens.{Tokens, ended, token}
use Rattle.pj_xtokens.specs.declared.token.End.TheVariants as ends
use Rattle.pj_xsyntax_laws.proofs.Sizes.{size-append}
use Rattle.pj_xsyntax_laws.specs.Spaced.{Word, spaced, placed, AreSpelled}
use Rattle.pj_xsyntax_laws.proofs.Stopping.{longest_before}
use Rattle.pj_xsyntax_laws.proofs.WordKinds.{SpelledAreTold}
use Rattle.pj_xsyntax_laws.proofs.Fronts.{opens_none, solid_front, not_joined}

size-space : (rest : List ℕ) → size (32 ∷ rest) ≡ 1 + size rest
unfolding encode
size-space rest = size-append (32 ∷ []) rest

pub size-word : (w rest : List ℕ) → size (w ++ 32 ∷ rest) ≡ size w + (1 + size rest)
size-word w rest = let a = size-append w (32 ∷ rest) in let b = size-space rest in omega (arith, a, b)

-- the words from an offset on, behind white space, where the scanner's states tell what each token is
pub tokens_from : SpelledAreTold → (total from : ℕ) (ws : List Word) (text : List ℕ) → AreSpelled ws → Past text (spaced ws) → from + size (spaced ws) ≡ total
    → Tokens total text (placed from ws) (ends.Text total)
tokens_from told total from [] text f p e = ended text p
tokens_from told total from (w ∷ ws) text f p e =
    let rest = spaced ws in
    let n = size-word w.text rest in
    let behind : from + size w.text + 1 + size rest ≡ total = omega (arith, e, n) in
    token text (w.text ++ 32 ∷ rest) w.text (32 ∷ rest) w.kind from (placed (from + size w.text + 1) ws) (ends.Text total)
    p (solid_front told w.text (32 ∷ rest) w.kind refl f.0) (opens_none told w.text (32 ∷ rest) w.kind refl f.0) refl (longest_before told w.text (32 ∷ rest) w.kind refl f.0) e (not_joined w.kind (32 ∷ rest) refl)
    (tokens_from told total (from + size w.text + 1) ws (32 ∷ rest) f.1 (white 32 (32 ∷ rest) rest rest refl refl (here rest rest refl)) behind)
