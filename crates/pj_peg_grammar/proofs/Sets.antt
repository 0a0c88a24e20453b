-- Sets of numbers as lists of Booleans.
use Rattle.std.proofs.Common.{◌≡◌, ℕ, zero, suc, ◌<◌, ◌⊎◌, Bool, true, false, List, [], ◌∷◌, length, refl, sym, ◌∙◌, ap, inl, inr, ⊎_elim, arith, get_or}
use Rattle.std.specs.Prelude.{slice_set}
use Rattle.std.specs.Bool.{OnTrue, OnFalse}
use Rattle.std.proofs.lemmas.Bool.{cases_eq}
use Rattle.pj_peg_grammar.specs.Analysis.{is_set, unset}

pub set_in : (set : List Bool) (r : ℕ) → r < length set → is_set (slice_set set r true) r ≡ true
set_in [] r lt = absurd (omega arith)
set_in (b ∷ set) zero lt = refl
set_in (b ∷ set) (suc r) lt = set_in set r (omega arith)

pub set_apart : (set : List Bool) (r s : ℕ) → (s ≡ r → ⊥) → is_set (slice_set set r true) s ≡ is_set set s
set_apart [] r s differs = refl
set_apart (b ∷ set) zero zero differs = absurd (differs refl)
set_apart (b ∷ set) zero (suc s) differs = refl
set_apart (b ∷ set) (suc r) zero differs = refl
set_apart (b ∷ set) (suc r) (suc s) differs = set_apart set r s (λ e. differs (ap suc e))

-- what is in the set after a number was put into it
pub set_cases : (set : List Bool) (r s : ℕ) → is_set (slice_set set r true) s ≡ true → (is_set set s ≡ true) ⊎ (s ≡ r)
set_cases set r s t = ⊎_elim (λ (e : s ≡ r). inr e) (λ (e : s ≡ r → ⊥). inl (sym (set_apart set r s e) ∙ t)) (cases_eq s r)

pub set_keeps : (set : List Bool) (r s : ℕ) → is_set set s ≡ true → is_set (slice_set set r true) s ≡ true
set_keeps [] r s t = t
set_keeps (b ∷ set) zero zero t = refl
set_keeps (b ∷ set) zero (suc s) t = t
set_keeps (b ∷ set) (suc r) zero t = t
set_keeps (b ∷ set) (suc r) (suc s) t = set_keeps set r s t

pub set_within : (set : List Bool) (r : ℕ) → is_set set r ≡ true → r < length set
set_within [] r t = absurd (let z = t in cc)
set_within (b ∷ set) zero t = omega arith
set_within (b ∷ set) (suc r) t = let h = set_within set r t in omega arith

-- one number less is left
pub set_fewer : (set : List Bool) (r : ℕ) → r < length set → is_set set r ≡ false → unset set ≡ suc (unset (slice_set set r true))
set_fewer [] r lt t = absurd (omega arith)
set_fewer (true ∷ set) zero lt t = absurd (let z = t in cc)
set_fewer (false ∷ set) zero lt t = refl
set_fewer (true ∷ set) (suc r) lt t = set_fewer set r (omega arith) t
set_fewer (false ∷ set) (suc r) lt t = ap suc (set_fewer set r (omega arith) t)

pub on_true : (b : Bool) (P : Type 0) → (b ≡ true → P) → OnTrue b P
on_true true P h = h refl
on_true false P h = tt

pub on_false : (b : Bool) (P : Type 0) → (b ≡ false → P) → OnFalse b P
on_false true P h = tt
on_false false P h = h refl

pub true_on : (b : Bool) (P : Type 0) → OnTrue b P → b ≡ true → P
true_on true P h e = h
true_on false P h e = absurd (let z = e in cc)

pub false_on : (b : Bool) (P : Type 0) → OnFalse b P → b ≡ false → P
false_on true P h e = absurd (let z = e in cc)
false_on false P h e = h

-- a bit that was read
pub bit_at : (set : List Bool) (r : ℕ) (b : Bool) → r < length set → b ≡ get_or set r b → is_set set r ≡ b
bit_at [] r b lt is = absurd (omega arith)
bit_at (x ∷ set) zero b lt is = sym is
bit_at (x ∷ set) (suc r) b lt is = bit_at set r b (omega arith) is
