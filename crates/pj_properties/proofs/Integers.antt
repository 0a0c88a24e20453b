-- Integers that fit 64 bits.
use Rattle.std.proofs.Common.{ℕ, ℤ, pos, negsuc, ◌≡◌, ◌<◌, ◌≤◌, ◌^◌, true, false, cond, Option, None, Some, ap, sym, ◌∙◌, arith, inl, inr, FitsSigned}
use Rattle.std.specs.Int.{w64}
use Rattle.std.specs.Option.{SomeIff}
use Rattle.std.proofs.lemmas.Bool.{cases_Bool, ltb-true, ltb-false}
use Rattle.pj_properties.specs.Literals.{fits_64, if_fitting}

not_both : (m n : ℕ) → m ≤ n → n < m → ⊥
not_both m n a b = omega arith

fits : (z : ℤ) → fits_64 z ≡ true → FitsSigned w64 z
fits (pos n) e = record { sfits = ltb-true n (2 ^ 63) e }
fits (negsuc n) e = record { sfits = ltb-true n (2 ^ 63) e }

fits_not : (z : ℤ) → fits_64 z ≡ false → FitsSigned w64 z → ⊥
fits_not (pos n) e h = not_both (2 ^ 63) n (ltb-false n (2 ^ 63) e) h.sfits
fits_not (negsuc n) e h = not_both (2 ^ 63) n (ltb-false n (2 ^ 63) e) h.sfits

pub fitting : (r : Option ℤ) (z : ℤ) → SomeIff r (FitsSigned w64 z) z → r ≡ if_fitting z
fitting None z not = elim (cases_Bool (fits_64 z)) [
  | inl e ↦ absurd (not (fits z e))
  | inr e ↦ sym (ap (λ b. cond b (Some z) None) e)
]
fitting (Some x) z is = elim (cases_Bool (fits_64 z)) [
  | inl e ↦ ap (λ (y : ℤ). Some y) is.1 ∙ sym (ap (λ b. cond b (Some z) None) e)
  | inr e ↦ absurd (fits_not z e is.0)
]
