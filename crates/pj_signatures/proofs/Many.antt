-- Repetitions of a reading, turn by turn.
use Rattle.std.proofs.Common.{◌≡◌, ◌<◌, ℕ, zero, suc, Bool, true, false, List, length, refl, arith}
use Rattle.std.specs.Prelude.{Option, Some, None, nat_lt, cond}
use Rattle.std.proofs.lemmas.Bool.Decides.{nat_tests}
use Rattle.pj_signatures.specs.Reading.{next, at_most, many}

module _ {X S : Type 0} (goes_on : List ℕ → Bool) (item : List ℕ → Option (X × List ℕ)) (step : S → X → S) where
  -- one turn, and what follows it
  abbrev turn : (S → List ℕ → Option (S × List ℕ)) → S → List ℕ → Option (S × List ℕ)
  turn after state text =
      cond (goes_on text) (next (item text) (λ value rest. cond (nat_lt (length rest) (length text)) (after (step state value) rest) None)) (Some (state, text))

  -- with more turns than the text has bytes, the number does not count
  enough : (n m : ℕ) (state : S) (text : List ℕ) → length text < n → length text < m → at_most goes_on item step n state text ≡ at_most goes_on item step m state text
  unfolding at_most
  enough zero m state text h k = absurd (omega arith)
  enough (suc n) zero state text h k = absurd (omega arith)
  enough (suc n) (suc m) state text h k = alike (goes_on text) (item text) (λ state rest below. enough n m state rest (omega arith) (omega arith))
    where
      within : (value : X) (rest : List ℕ) (test : Bool) → nat_lt (length rest) (length text) ≡ test
          → ((state : S) (rest : List ℕ) → length rest < length text → at_most goes_on item step n state rest ≡ at_most goes_on item step m state rest)
          → cond test (at_most goes_on item step n (step state value) rest) None ≡ cond test (at_most goes_on item step m (step state value) rest) None
      within value rest true is same = same (step state value) rest (grind (arith, nat_tests))
      within value rest false is same = refl

      alike : (goes : Bool) (found : Option (X × List ℕ))
          → ((state : S) (rest : List ℕ) → length rest < length text → at_most goes_on item step n state rest ≡ at_most goes_on item step m state rest)
          → cond goes (next found (λ value rest. cond (nat_lt (length rest) (length text)) (at_most goes_on item step n (step state value) rest) None)) (Some (state, text))
          ≡ cond goes (next found (λ value rest. cond (nat_lt (length rest) (length text)) (at_most goes_on item step m (step state value) rest) None)) (Some (state, text))
      alike true None same = refl
      alike true (Some pair) same = within pair.0 pair.1 (nat_lt (length pair.1) (length text)) refl same
      alike false found same = refl

  pub many_more : (state : S) (text : List ℕ) (value : X) (rest : List ℕ) → goes_on text ≡ true → item text ≡ Some (value, rest) → length rest < length text
      → many goes_on item step state text ≡ many goes_on item step (step state value) rest
  unfolding many at_most
  many_more state text value rest goes found shorter =
      let less : nat_lt (length rest) (length text) ≡ true = grind (arith, nat_tests) in
      rw (goes, found, less) (enough (length text) (suc (length rest)) (step state value) rest shorter (omega arith))

  pub many_none : (state : S) (text : List ℕ) → goes_on text ≡ true → item text ≡ None → many goes_on item step state text ≡ None
  unfolding many at_most
  many_none state text goes found = rw (goes, found) refl

  pub many_end : (state : S) (text : List ℕ) → goes_on text ≡ false → many goes_on item step state text ≡ Some (state, text)
  unfolding many at_most
  many_end state text goes = rw goes refl
