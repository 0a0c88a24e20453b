-- Whether more is open at a place than may be, by a run over the terminals before it.
use Rattle.std.proofs.Common.{◌≡◌, ℕ, zero, suc, ◌+◌, ◌<◌, ◌≤◌, inl, inr, true, false, List, [], ◌∷◌, length, take, drop, refl, sym, ap, subst, ◌∙◌, arith}
use Rattle.std.specs.Prelude.{slice_get}
use Rattle.std.proofs.lemmas.List.{length-take-le, take-append-drop}
use Rattle.std.proofs.lemmas.Bool.{false≢true, cases_lt}
use Rattle.std.proofs.lemmas.Option.{slice_get_within}
use Rattle.pj_ll.specs.declared.parser.End.{End}
use Rattle.pj_ll.specs.declared.parser.End.TheVariants as e
use Rattle.pj_ll.specs.Leads.{IsLeftOut, IsDeeper}
use Rattle.pj_ll.specs.Outcome.{IsEnd, IsTooDeepAt, AreClearBelow}
use Rattle.pj_xgrammar.specs.XPath.{xpath_grammar}
use Rattle.pj_xderive.specs.Following.{is_too_deep}
use Rattle.pj_xderive.proofs.Lifting.{Goes, goes_before}

-- ---- the elements before a place

take_of_front : (ts : List ℕ) (i j : ℕ) → j ≤ i → take j (take i ts) ≡ take j ts
take_of_front ts i zero le = refl
take_of_front ts zero (suc j) le = absurd (omega arith)
take_of_front [] (suc i) (suc j) le = refl
take_of_front (t ∷ ts) (suc i) (suc j) le = ap (λ l. t ∷ l) (take_of_front ts i j (omega arith))

get_of_front : (ts : List ℕ) (i j : ℕ) → j < i → slice_get (take i ts) j ≡ slice_get ts j
get_of_front ts zero j lt = absurd (omega arith)
get_of_front [] (suc i) j lt = refl
get_of_front (t ∷ ts) (suc i) zero lt = refl
get_of_front (t ∷ ts) (suc i) (suc j) lt = get_of_front ts i j (omega arith)

-- ---- the run

module _ (ts : List ℕ) (i : ℕ) (within : i ≤ length ts) (before : Goes (take i ts)) (clear : AreClearBelow xpath_grammar ts 200 i) where
  count : length (take i ts) ≡ i
  count = length-take-le i ts within

  deeper_at : (j : ℕ) → j ≤ i → IsTooDeepAt xpath_grammar (take i ts) 200 j → IsTooDeepAt xpath_grammar ts 200 j
  deeper_at j le deep = subst (λ l. IsDeeper xpath_grammar l 200) (take_of_front ts i j le) deep

  deeper_here : IsTooDeepAt xpath_grammar ts 200 i → IsTooDeepAt xpath_grammar (take i ts) 200 i
  deeper_here deep = subst (λ l. IsDeeper xpath_grammar l 200) (sym (take_of_front ts i i (omega arith))) deep

  pub deep : (end : End) → IsEnd xpath_grammar (take i ts) 200 end → is_too_deep end ≡ true → IsTooDeepAt xpath_grammar ts 200 i
  deep e.Whole end h = absurd (false≢true h)
  deep (e.Stops j) end h = absurd (false≢true h)
  deep (e.LeftOut j) end h = absurd (false≢true h)
  deep (e.TooDeep j) end h =
      let n = count in
      let le = end.within in
      elim (cases_lt j i) [
        | inl lt ↦ absurd (clear.not_too_deep j lt (deeper_at j (omega arith) end.deep))
        | inr ge ↦ let is : j ≡ i = omega arith in subst (IsTooDeepAt xpath_grammar ts 200) is (deeper_at j (omega arith) end.deep)
      ]

  pub not_deep : (end : End) → IsEnd xpath_grammar (take i ts) 200 end → is_too_deep end ≡ false → IsTooDeepAt xpath_grammar ts 200 i → ⊥
  not_deep e.Whole end h there = let n = count in end.clear.not_too_deep i (omega arith) (deeper_here there)
  not_deep (e.Stops j) end h there =
      let n = count in
      elim (cases_lt j i) [
        | inl lt ↦
            end.terminal (omega arith) (goes_before (take (j + 1) (take i ts)) (drop (j + 1) (take i ts)) (subst Goes (sym (take-append-drop (j + 1) (take i ts))) before))
        | inr ge ↦ end.clear.not_too_deep i (omega arith) (deeper_here there)
      ]
  not_deep (e.LeftOut j) end h there =
      let n = count in
      let (t, at, it) = end.left_out in
      let lt : j < length (take i ts) = slice_get_within (take i ts) j t at in
      clear.not_left_out j (omega arith)
      (t, sym (get_of_front ts i j (omega arith)) ∙ at, subst (λ l. IsLeftOut xpath_grammar l t) (take_of_front ts i j (omega arith)) it)
  not_deep (e.TooDeep j) end h there = absurd (false≢true (sym h))
