-- Words behind words.
use Rattle.std.proofs.Common.{◌≡◌, ℕ, ◌+◌, List, [], ◌∷◌, ◌++◌, refl, sym, ap, ◌∙◌, arith, append_assoc}
use Rattle.std.proofs.Math.Nat.{add-zero}
use Rattle.pj_xtokens.specs.Size.{size}
use Rattle.pj_xtokens.specs.Tokens.{Lexed, lexed}
use Rattle.pj_xsyntax_laws.specs.Spaced.{Word, spaced, placed, AreSpelled, written, doubled}
use Rattle.pj_xsyntax_laws.proofs.Placing.{size-word}

pub AreSpelled-append : (vs ws : List Word) → AreSpelled vs → AreSpelled ws → AreSpelled (vs ++ ws)
AreSpelled-append [] ws f g = g
AreSpelled-append (v ∷ vs) ws f g = (f.0, AreSpelled-append vs ws f.1 g)

-- the words behind others begin where the text of those ends
pub placed-append : (from : ℕ) (vs ws : List Word) → placed from (vs ++ ws) ≡ placed from vs ++ placed (from + size (spaced vs)) ws
placed-append from [] ws = ap (λ n. placed n ws) (sym (add-zero from))
placed-append from (v ∷ vs) ws =
    let n = size-word v.text (spaced vs) in
    let behind : from + size v.text + 1 + size (spaced vs) ≡ from + size (v.text ++ 32 ∷ spaced vs) = omega (arith, n) in
    ap (λ (x : List Lexed). lexed v.kind v.text from ∷ x) (placed-append (from + size v.text + 1) vs ws ∙ ap (λ n. placed (from + size v.text + 1) vs ++ placed n ws) behind)

pub doubled-append : (cs ds : List ℕ) → doubled (cs ++ ds) ≡ doubled cs ++ doubled ds
doubled-append [] ds = refl
doubled-append (c ∷ cs) ds = ap (λ (x : List ℕ). written c ++ x) (doubled-append cs ds) ∙ sym (append_assoc (written c) (doubled cs) (doubled ds))
