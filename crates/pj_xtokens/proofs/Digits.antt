-- Numbers grow with their digits.
use Rattle.std.proofs.Common.{◌≡◌, ◌≤◌, ◌<◌, ℕ, ◌+◌, ◌*◌, ◌-◌, true, false, cond, ⊎_elim, List, [], ◌∷◌, Some, None, pos, ap, sym, arith}
use Rattle.std.specs.Prelude.{nat_lt}
use Rattle.std.proofs.lemmas.Bool.{cases_Bool, ltb-true}
use Rattle.pj_xtokens.specs.Literals.{number_from, if_it_fits}

pub grows : (n : ℕ) (digits : List ℕ) → n ≤ number_from n digits
grows n [] = omega arith
grows n (d ∷ ds) = let more = grows (n * 10 + (d - 48)) ds in omega (arith, more)

pub too_large : (n : ℕ) (digits : List ℕ) → 9223372036854775807 < n → None ≡ if_it_fits (number_from n digits)
too_large n digits large =
    let more = grows n digits in
    ⊎_elim
    (λ (h : nat_lt (number_from n digits) 9223372036854775808 ≡ true). absurd (let less = ltb-true _ _ h in omega (arith, less, more, large)))
    (λ (h : nat_lt (number_from n digits) 9223372036854775808 ≡ false). sym (ap (λ b. cond b (Some (pos (number_from n digits))) None) h))
    (cases_Bool (nat_lt (number_from n digits) 9223372036854775808))
