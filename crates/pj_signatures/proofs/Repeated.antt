-- Repetitions: what is spelled by a list is read as the list, and what is read as a list is spelled by one.
use Rattle.std.proofs.Common.{◌≡◌, ◌++◌, ◌<◌, ℕ, zero, suc, Bool, true, false, List, [], ◌∷◌, length, map, ap, refl, sym, ◌∙◌, append_assoc, append-nil}
use Rattle.std.specs.Prelude.{Option, Some, None, nat_lt, cond}
use Rattle.std.specs.List.{list_all}
use Rattle.pj_signatures.specs.Signature.{spelled_each}
use Rattle.pj_signatures.specs.Reading.{next, at_most, many, put}
use Rattle.pj_signatures.proofs.Many.{many_more, many_end}

-- a fact of each member of a list
abbrev pub Each : {W : Type 0} → (W → Type 0) → List W → Type 0
Each Holds [] = Unit {0}
Each Holds (w ∷ ws) = Holds w × Each Holds ws

-- the state after the members of a list
abbrev pub folded : {W X S : Type 0} → (S → X → S) → (W → X) → S → List W → S
folded step value state [] = state
folded step value state (w ∷ ws) = folded step value (step state (value w)) ws

-- a list to which each value is put at its end
pub put_each : {W X : Type 0} (value : W → X) (so_far : List X) (ws : List W) → folded put value so_far ws ≡ so_far ++ map value ws
put_each value so_far [] = sym (append-nil so_far)
put_each value so_far (w ∷ ws) = put_each value (so_far ++ value w ∷ []) ws ∙ append_assoc so_far (value w ∷ []) (map value ws)

-- What spells the member is read as its value, in front of what is good.
pub record IsReadAgain {W X : Type 0} (goes_on good : List ℕ → Bool) (item : List ℕ → Option (X × List ℕ)) (spells : W → List ℕ → List ℕ) (value : W → X) (w : W) : Type 0 where
  pub goes : (rest : List ℕ) → good rest ≡ true → goes_on (spells w rest) ≡ true
  pub reads : (rest : List ℕ) → good rest ≡ true → item (spells w rest) ≡ Some (value w, rest)
  pub longer : (rest : List ℕ) → length rest < length (spells w rest)
  pub good_again : (rest : List ℕ) → good rest ≡ true → good (spells w rest) ≡ true

-- What is read is spelled by a member that fits.
pub record IsTaken {W X : Type 0} (spells : W → List ℕ → List ℕ) (value : W → X) (fits : W → Bool) (text : List ℕ) (x : X) (rest : List ℕ) : Type 0 where
  pub from : W
  pub is_good : fits from ≡ true
  pub text_is : text ≡ spells from rest
  pub value_is : x ≡ value from

-- What is read by a repetition is spelled by a list of members that fit.
pub record AreTaken {W X S : Type 0} (goes_on : List ℕ → Bool) (step : S → X → S) (spells : W → List ℕ → List ℕ) (value : W → X) (fits : W → Bool) (state : S) (text : List ℕ) (reached : S) (rest : List ℕ) : Type 0 where
  pub from : List W
  pub are_good : list_all fits from ≡ true
  pub text_is : text ≡ spelled_each spells from rest
  pub state_is : reached ≡ folded step value state from
  pub stops : goes_on rest ≡ false

module _ {W X S : Type 0} (goes_on good : List ℕ → Bool) (item : List ℕ → Option (X × List ℕ)) (step : S → X → S) (spells : W → List ℕ → List ℕ) (value : W → X) where
  pub good_each : (ws : List W) → Each (IsReadAgain goes_on good item spells value) ws → (rest : List ℕ) → good rest ≡ true → good (spelled_each spells ws rest) ≡ true
  good_each [] each rest h = h
  good_each (w ∷ ws) each rest h = (each.0).good_again (spelled_each spells ws rest) (good_each ws each.1 rest h)

  pub many_again : (ws : List W) → Each (IsReadAgain goes_on good item spells value) ws → (state : S) (rest : List ℕ) → good rest ≡ true → goes_on rest ≡ false
      → many goes_on item step state (spelled_each spells ws rest) ≡ Some (folded step value state ws, rest)
  many_again [] each state rest h stops = many_end goes_on item step state rest stops
  many_again (w ∷ ws) each state rest h stops =
      let behind = spelled_each spells ws rest in
      let fine = good_each ws each.1 rest h in
      many_more goes_on item step state (spells w behind) (value w) behind ((each.0).goes behind fine) ((each.0).reads behind fine) ((each.0).longer behind)
      ∙ many_again ws each.1 (step state (value w)) rest h stops

module _ {W X S : Type 0} (goes_on : List ℕ → Bool) (item : List ℕ → Option (X × List ℕ)) (step : S → X → S) (spells : W → List ℕ → List ℕ) (value : W → X) (fits : W → Bool)
    (takes : (text : List ℕ) (x : X) (rest : List ℕ) → item text ≡ Some (x, rest) → IsTaken spells value fits text x rest) where
  one_more : (state : S) (text : List ℕ) (x : X) (middle : List ℕ) (reached : S) (rest : List ℕ) → IsTaken spells value fits text x middle → AreTaken goes_on step spells value fits (step state x) middle reached rest → AreTaken goes_on step spells value fits state text reached rest
  one_more state text x middle reached rest taken more = record {
    from = taken.from ∷ more.from;
    are_good = rw taken.is_good more.are_good;
    text_is = taken.text_is ∙ ap (spells taken.from) more.text_is;
    state_is = more.state_is ∙ ap (λ (y : X). folded step value (step state y) more.from) taken.value_is;
    stops = more.stops;
  }

  at_most_takes : (n : ℕ) (state : S) (text : List ℕ) (reached : S) (rest : List ℕ) → at_most goes_on item step n state text ≡ Some (reached, rest) → AreTaken goes_on step spells value fits state text reached rest
  unfolding at_most
  at_most_takes zero state text reached rest e = absurd cc
  at_most_takes (suc n) state text reached rest e = by_test (goes_on text) refl e (λ x middle. at_most_takes n (step state x) middle reached rest)
    where
      by_length : (test : Bool) (x : X) (middle : List ℕ) → item text ≡ Some (x, middle) → cond test (at_most goes_on item step n (step state x) middle) None ≡ Some (reached, rest)
          → ((x : X) (middle : List ℕ) → at_most goes_on item step n (step state x) middle ≡ Some (reached, rest) → AreTaken goes_on step spells value fits (step state x) middle reached rest) → AreTaken goes_on step spells value fits state text reached rest
      by_length true x middle found k more = one_more state text x middle reached rest (takes text x middle found) (more x middle k)
      by_length false x middle found k more = absurd cc

      by_item : (found : Option (X × List ℕ)) → item text ≡ found → next found (λ x middle. cond (nat_lt (length middle) (length text)) (at_most goes_on item step n (step state x) middle) None) ≡ Some (reached, rest)
          → ((x : X) (middle : List ℕ) → at_most goes_on item step n (step state x) middle ≡ Some (reached, rest) → AreTaken goes_on step spells value fits (step state x) middle reached rest) → AreTaken goes_on step spells value fits state text reached rest
      by_item None is k more = absurd cc
      by_item (Some pair) is k more = by_length (nat_lt (length pair.1) (length text)) pair.0 pair.1 is k more

      by_test : (test : Bool) → goes_on text ≡ test → cond test (next (item text) (λ x middle. cond (nat_lt (length middle) (length text)) (at_most goes_on item step n (step state x) middle) None)) (Some (state, text)) ≡ Some (reached, rest)
          → ((x : X) (middle : List ℕ) → at_most goes_on item step n (step state x) middle ≡ Some (reached, rest) → AreTaken goes_on step spells value fits (step state x) middle reached rest) → AreTaken goes_on step spells value fits state text reached rest
      by_test true is k more = by_item (item text) refl k more
      by_test false is k more =
          let both : (state, text) ≡ (reached, rest) = cc in
          record { from = []; are_good = refl; text_is = ap (λ (p : S × List ℕ). p.1) both; state_is = sym (ap (λ (p : S × List ℕ). p.0) both); stops = sym (ap (λ (p : S × List ℕ). goes_on p.1) both) ∙ is }

  pub many_takes : (state : S) (text : List ℕ) (reached : S) (rest : List ℕ) → many goes_on item step state text ≡ Some (reached, rest) → AreTaken goes_on step spells value fits state text reached rest
  unfolding many
  many_takes state text reached rest e = at_most_takes (suc (length text)) state text reached rest e
