-- What is lexed are slices of the text.
use Rattle.std.proofs.Common.{◌≡◌, ℕ, ◌+◌, List, ◌∷◌, ◌++◌, sym, refl, ap, ◌∙◌, arith, append_assoc}
use Rattle.pj_lex.specs.Size.{size}
use Rattle.pj_lex.specs.Tokens.{Lexed, Tokens, ended, token, fault, AreSlices}
use Rattle.pj_lex.proofs.Ends.{size-append}

-- behind a front whose bytes are counted
pub slices : (at : ℕ) (text : List ℕ) (ls : List Lexed) → Tokens at text ls → (whole front : List ℕ) → whole ≡ front ++ text → at ≡ size front → AreSlices whole ls
slices _ _ _ (ended at text h) whole front s e = tt
slices _ _ _ (token at text gap w behind k more s h b rest) whole front p e =
    let split : whole ≡ (front ++ gap) ++ (w ++ behind) = p ∙ ap (λ (x : List ℕ). front ++ x) s ∙ sym (append_assoc front gap (w ++ behind)) in
    let from : at + size gap ≡ size (front ++ gap) = ap (λ x. x + size gap) e ∙ sym (size-append front gap) in
    let further : whole ≡ (front ++ (gap ++ w)) ++ behind = p ∙ ap (λ (x : List ℕ). front ++ x) (s ∙ sym (append_assoc gap w behind)) ∙ sym (append_assoc front (gap ++ w) behind) in
    let next : at + size (gap ++ w) ≡ size (front ++ (gap ++ w)) = ap (λ x. x + size (gap ++ w)) e ∙ sym (size-append front (gap ++ w)) in
    ((front ++ gap, (behind, split, from, refl)), slices (at + size (gap ++ w)) behind more rest whole (front ++ (gap ++ w)) further next)
slices _ _ _ (fault at text gap behind rest c f s h n b) whole front p e =
    let split : whole ≡ (front ++ gap) ++ (c ∷ rest) = p ∙ ap (λ (x : List ℕ). front ++ x) s ∙ sym (append_assoc front gap (c ∷ rest)) in
    let from : at + size gap ≡ size (front ++ gap) = ap (λ x. x + size gap) e ∙ sym (size-append front gap) in
    let empty : at + size gap ≡ at + size gap + 0 = omega arith in
    ((front ++ gap, (c ∷ rest, split, from, empty)), tt)
