-- A list of terminals has one end of a run at most, for each grammar.
use Rattle.std.proofs.Common.{◌≡◌, ℕ, zero, suc, ◌+◌, ◌<◌, ◌≤◌, List, [], ◌∷◌, ◌++◌, length, take, refl, sym, ◌∙◌, ap, subst, ⊎_elim, arith, append_assoc}
use Rattle.std.proofs.lemmas.Bool.{cases_lt}
use Rattle.std.proofs.lemmas.List.{take_all}
use Rattle.std.proofs.lemmas.Option.{slice_get_within}
use Rattle.pj_ll.specs.declared.parser.End.{End}
use Rattle.pj_ll.specs.declared.parser.End.TheVariants.{Whole, Stops, LeftOut, TooDeep}
use Rattle.pj_ll.specs.Grammar.{Grammar}
use Rattle.pj_ll.specs.Leads.{IsSentence, CanGoOn}
use Rattle.pj_ll.specs.Outcome.{IsLeftOutAt, IsWhole, StopsAt, IsLeftOutFirst, IsTooDeepFirst, IsEnd}

-- the shorter beginning of a list begins the longer one
begins : (ts : List ℕ) (i j : ℕ) → i ≤ j → (rest : List ℕ) × (take j ts ≡ take i ts ++ rest)
begins ts zero j le = (take j ts, refl)
begins ts (suc i) zero le = absurd (omega arith)
begins [] (suc i) (suc j) le = ([], refl)
begins (t ∷ ts) (suc i) (suc j) le = let (rest, is) = begins ts i j (omega arith) in (rest, ap (λ l. t ∷ l) is)

module _ (g : Grammar) (ts : List ℕ) (deepest : ℕ) where
  -- what begins a sentence has beginnings that do
  pub earlier : (i j : ℕ) → i ≤ j → CanGoOn g (take j ts) → CanGoOn g (take i ts)
  earlier i j le (more, sentence) =
      let (rest, is) = begins ts i j le in
      (rest ++ more, subst (IsSentence g) (ap (λ l. l ++ more) is ∙ append_assoc (take i ts) rest more) sentence)

  pub whole_begins : (i : ℕ) → i ≤ length ts → IsSentence g ts → CanGoOn g (take i ts)
  whole_begins i le sentence =
      let (rest, is) = begins ts i (length ts) le in
      (rest, subst (IsSentence g) (sym (take_all (length ts) ts (omega arith)) ∙ is) sentence)

  left_out_within : (i : ℕ) → IsLeftOutAt g ts i → i < length ts
  left_out_within i (t, at, rest) = slice_get_within ts i t at

  whole_stops : (i : ℕ) → IsWhole g ts deepest → StopsAt g ts deepest i → ⊥
  whole_stops i w s = ⊎_elim
      (λ (lt : i < length ts). s.terminal lt (whole_begins (i + 1) (omega arith) w.sentence))
      (λ (le : length ts ≤ i). let within = s.within in s.at_end (omega arith) w.sentence)
      (cases_lt i (length ts))

  whole_left_out : (i : ℕ) → IsWhole g ts deepest → IsLeftOutFirst g ts deepest i → ⊥
  whole_left_out i w l = let lt = left_out_within i l.left_out in w.clear.not_left_out i (omega arith) l.left_out

  whole_too_deep : (i : ℕ) → IsWhole g ts deepest → IsTooDeepFirst g ts deepest i → ⊥
  whole_too_deep i w d = let within = d.within in w.clear.not_too_deep i (omega arith) d.deep

  stops_before : (i j : ℕ) → j ≤ length ts → i < j → StopsAt g ts deepest i → CanGoOn g (take j ts) → ⊥
  stops_before i j within lt s before = s.terminal (omega arith) (earlier (i + 1) j (omega arith) before)

  stops_left_out : (i j : ℕ) → StopsAt g ts deepest i → IsLeftOutFirst g ts deepest j → ⊥
  stops_left_out i j s l = ⊎_elim
      (λ (lt : i < j). let within = left_out_within j l.left_out in stops_before i j (omega arith) lt s l.before)
      (λ (le : j ≤ i). s.clear.not_left_out j (omega arith) l.left_out)
      (cases_lt i j)

  stops_too_deep : (i j : ℕ) → StopsAt g ts deepest i → IsTooDeepFirst g ts deepest j → ⊥
  stops_too_deep i j s d = ⊎_elim
      (λ (lt : i < j). stops_before i j d.within lt s d.before)
      (λ (le : j ≤ i). s.clear.not_too_deep j (omega arith) d.deep)
      (cases_lt i j)

  left_out_too_deep : (i j : ℕ) → IsLeftOutFirst g ts deepest i → IsTooDeepFirst g ts deepest j → ⊥
  left_out_too_deep i j l d = ⊎_elim
      (λ (lt : i < j). d.clear.not_left_out i lt l.left_out)
      (λ (le : j ≤ i). ⊎_elim
      (λ (lt : j < i). l.clear.not_too_deep j lt d.deep)
      (λ (ge : i ≤ j). let same : i ≡ j = omega arith in d.here (subst (IsLeftOutAt g ts) same l.left_out))
      (cases_lt j i))
      (cases_lt i j)

  same_place : (i j : ℕ) → (i < j → ⊥) → (j < i → ⊥) → i ≡ j
  same_place i j a b = ⊎_elim
      (λ (lt : i < j). absurd (a lt))
      (λ (le : j ≤ i). ⊎_elim (λ (lt : j < i). absurd (b lt)) (λ (ge : i ≤ j). omega arith) (cases_lt j i))
      (cases_lt i j)

  pub one_end : (a b : End) → IsEnd g ts deepest a → IsEnd g ts deepest b → a ≡ b
  one_end Whole Whole x y = refl
  one_end Whole (Stops j) x y = absurd (whole_stops j x y)
  one_end Whole (LeftOut j) x y = absurd (whole_left_out j x y)
  one_end Whole (TooDeep j) x y = absurd (whole_too_deep j x y)
  one_end (Stops i) Whole x y = absurd (whole_stops i y x)
  one_end (Stops i) (Stops j) x y =
      ap Stops (same_place i j (λ lt. stops_before i j y.within lt x y.before) (λ lt. stops_before j i x.within lt y x.before))
  one_end (Stops i) (LeftOut j) x y = absurd (stops_left_out i j x y)
  one_end (Stops i) (TooDeep j) x y = absurd (stops_too_deep i j x y)
  one_end (LeftOut i) Whole x y = absurd (whole_left_out i y x)
  one_end (LeftOut i) (Stops j) x y = absurd (stops_left_out j i y x)
  one_end (LeftOut i) (LeftOut j) x y =
      ap LeftOut (same_place i j (λ lt. y.clear.not_left_out i lt x.left_out) (λ lt. x.clear.not_left_out j lt y.left_out))
  one_end (LeftOut i) (TooDeep j) x y = absurd (left_out_too_deep i j x y)
  one_end (TooDeep i) Whole x y = absurd (whole_too_deep i y x)
  one_end (TooDeep i) (Stops j) x y = absurd (stops_too_deep j i y x)
  one_end (TooDeep i) (LeftOut j) x y = absurd (left_out_too_deep j i y x)
  one_end (TooDeep i) (TooDeep j) x y =
      ap TooDeep (same_place i j (λ lt. y.clear.not_too_deep i lt x.deep) (λ lt. x.clear.not_too_deep j lt y.deep))
