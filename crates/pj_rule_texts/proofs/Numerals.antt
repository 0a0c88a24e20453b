-- What `parse` gives of a signed number, by its sign and its digits.
use Rattle.std.proofs.Common.{◌≡◌, ℕ, zero, suc, ◌+◌, ◌^◌, ◌<◌, ◌≤◌, Bool, true, false, cond, not, ◌&&◌, ◌⊎◌, ◌==◌, eqb, ltb, List, [], ◌∷◌, length, Some, None, Result, Ok, Err, ℤ, pos, neg_ℤ, refl, ap, ◌∙◌, arith, inl, inr}
use Rattle.std.specs.Option.{option_map}
use Rattle.std.specs.Result.{OkIff, result_ok}
use Rattle.std.specs.Str.{all_ascii_digits}
use Rattle.std.specs.Str.Parse.{digits_value, ParsesSigned}
use Rattle.std.proofs.lemmas.Bool.{false≢true, lt-ltb, le-ltb, cases_lt}
use Rattle.std.proofs.Math.Dec.{eqb-suc-zero}
use Rattle.std.proofs.lemmas.Bool.Decides.{eqb_tells}
use Rattle.std.proofs.lemmas.Str.Parse.{IsNumeralModel, numerals_by_value, tells_all_ascii_digits, parse_signed_minus, parse_signed_plain, parse_signed_plus}
use mir.Syntax.{Width}
use mir.Val.{hbits}
use Rattle.pj_rule_texts.specs.Values.{integer_of, number_below}

own : IsNumeralModel (λ ds. all_ascii_digits ds ≡ true) (digits_value 10)
own = numerals_by_value _ tells_all_ascii_digits

refuted : (n v bound : ℕ) (f : ℕ → ℤ) → bound ≤ v → None ≡ option_map f (cond ((true && not (suc n == 0)) && ltb v bound) (Some v) None)
refuted n v bound f above = rw (eqb-suc-zero n, le-ltb v bound above) refl

present : (n v bound : ℕ) (f : ℕ → ℤ) → v < bound → Some (f v) ≡ option_map f (cond ((true && not (suc n == 0)) && ltb v bound) (Some v) None)
present n v bound f below = rw (eqb-suc-zero n, lt-ltb v bound below) refl

shown : {E : Type 0} (r : Result ℤ E) (a : Bool) (n v bound : ℕ) (f : ℕ → ℤ) → OkIff r ((a ≡ true) × (0 < n) × (v < bound)) (f v) →
    result_ok r ≡ option_map f (cond ((a && not (n == 0)) && ltb v bound) (Some v) None)
shown (Ok x) false n v bound f h = absurd (false≢true h.0.0)
shown (Ok x) true zero v bound f h = absurd (omega (arith, h.0.1))
shown (Ok x) true (suc n) v bound f h = ap Some h.1 ∙ present n v bound f h.0.2
shown (Err e) false n v bound f h = refl
shown (Err e) true zero v bound f h = refl
shown (Err e) true (suc n) v bound f h =
    elim (cases_lt v bound) [ inl below ↦ absurd (h (refl, omega arith, below)) | inr above ↦ refuted n v bound f above ]

wider : {E : Type 0} (r : Result ℤ E) (a : Type 0) (n v bound : ℕ) (x : ℤ) → OkIff r (a × (0 < n) × (v ≤ bound)) x → OkIff r (a × (0 < n) × (v < bound + 1)) x
wider (Ok y) a n v bound x h = ((h.0.0, h.0.1, omega (arith, h.0.2)), h.1)
wider (Err e) a n v bound x h = λ p. h (p.0, p.1, omega (arith, p.2))

-- by the first byte
by_plus : (w : Width) {E : Type 0} (c : ℕ) (cs : List ℕ) (r : Result ℤ E) → ParsesSigned w 10 (c ∷ cs) r → (c ≡ 45 → ⊥) →
    ((eqb c 43 ≡ true) × (c ≡ 43)) ⊎ ((eqb c 43 ≡ false) × (c ≡ 43 → ⊥)) →
    result_ok r ≡ option_map (λ n. pos n) (number_below (2 ^ hbits w) (cond (eqb c 43) cs (c ∷ cs)))
by_plus w c cs r h no_minus (inl plus) = rw plus.0 (shown r (all_ascii_digits cs) (length cs) (digits_value 10 cs) (2 ^ hbits w) (λ n. pos n)
    (parse_signed_plus own w (c ∷ cs) r h plus.1))
by_plus w c cs r h no_minus (inr no_plus) = rw no_plus.0 (shown r (all_ascii_digits (c ∷ cs)) (length (c ∷ cs)) (digits_value 10 (c ∷ cs)) (2 ^ hbits w) (λ n. pos n)
    (parse_signed_plain own w (c ∷ cs) r h no_plus.1 no_minus))

by_minus : (w : Width) {E : Type 0} (c : ℕ) (cs : List ℕ) (r : Result ℤ E) → ParsesSigned w 10 (c ∷ cs) r →
    ((eqb c 45 ≡ true) × (c ≡ 45)) ⊎ ((eqb c 45 ≡ false) × (c ≡ 45 → ⊥)) → result_ok r ≡ integer_of (hbits w) (c ∷ cs)
by_minus w c cs r h (inl minus) = rw minus.0 (shown r (all_ascii_digits cs) (length cs) (digits_value 10 cs) (2 ^ hbits w + 1) (λ n. neg_ℤ (pos n))
    (wider r _ (length cs) _ _ _ (parse_signed_minus own w (c ∷ cs) r h minus.1)))
by_minus w c cs r h (inr no_minus) = rw no_minus.0 (by_plus w c cs r h no_minus.1 (eqb_tells c 43))

pub by_sign : (w : Width) {E : Type 0} (bs : List ℕ) (r : Result ℤ E) → ParsesSigned w 10 bs r → result_ok r ≡ integer_of (hbits w) bs
by_sign w [] r h = shown r (all_ascii_digits []) 0 (digits_value 10 []) (2 ^ hbits w) (λ n. pos n)
    (parse_signed_plain own w [] r h (omega arith) (omega arith))
by_sign w (c ∷ cs) r h = by_minus w c cs r h (eqb_tells c 45)
