-- The last byte of a text.
use Rattle.std.proofs.Common.{ℕ, suc, ◌≡◌, ◌-◌, ◌≤◌, Bool, List, [], ◌∷◌, length, get_or, refl, ap, ◌∙◌, arith}
use Rattle.pj_operators.specs.Literals.{ends_in}

pub ends_in_last : (p : ℕ → Bool) (xs : List ℕ) → 1 ≤ length xs → ends_in p xs ≡ p (get_or xs (length xs - 1) 0)
ends_in_last p [] some = absurd (omega arith)
ends_in_last p (c ∷ []) some = refl
ends_in_last p (c ∷ d ∷ cs) some =
    ends_in_last p (d ∷ cs) (omega arith)
    ∙ ap (λ (n : ℕ). p (get_or (c ∷ d ∷ cs) n 0)) (let e : suc (length (d ∷ cs) - 1) ≡ length (c ∷ d ∷ cs) - 1 = omega arith in e)
