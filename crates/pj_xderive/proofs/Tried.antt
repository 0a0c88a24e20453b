-- A run over the terminals before a place and another terminal there, where the run over all terminals stopped at the place.
use Rattle.std.proofs.Common.{◌≡◌, ℕ, zero, suc, ◌+◌, ◌<◌, ◌≤◌, inl, inr, true, false, List, [], ◌∷◌, ◌++◌, length, take, drop, Some, refl, sym, ap, subst, ◌∙◌, arith}
use Rattle.std.specs.Prelude.{slice_get}
use Rattle.std.proofs.lemmas.List.{append-nil, length-append, length-take-le, take_all, take-append-drop}
use Rattle.std.proofs.lemmas.Bool.{ltb-true, ltb-false, false≢true, cases_lt}
use Rattle.std.proofs.lemmas.Option.{slice_get_within}
use Rattle.pj_ll.specs.declared.parser.End.{End}
use Rattle.pj_ll.specs.declared.parser.End.TheVariants as e
use Rattle.pj_ll.specs.Leads.{IsSentence, IsLeftOut, IsDeeper}
use Rattle.pj_ll.specs.Outcome.{IsEnd, StopsAt, IsLeftOutAt}
use Rattle.pj_xtokens.specs.Tokens.{Lexed}
use Rattle.pj_xgrammar.specs.declared.terminal.Behind.TheVariants as b
use Rattle.pj_xgrammar.specs.XPath.{xpath_grammar}
use Rattle.pj_xderive.specs.Following.{IsReadAt, CouldFollow, is_past}
use Rattle.pj_xderive.proofs.Reading.{number, turns}
use Rattle.pj_xderive.proofs.Widening.{left_out_same}
use Rattle.pj_xderive.proofs.Lifting.{Goes, goes_before}

-- ---- a list up to a place and another element there

take_before : (ts : List ℕ) (i j t : ℕ) → j ≤ i → i ≤ length ts → take j (take i ts ++ t ∷ []) ≡ take j ts
take_before ts i zero t le within = refl
take_before ts zero (suc j) t le within = absurd (omega arith)
take_before [] (suc i) (suc j) t le within = absurd (omega arith)
take_before (u ∷ ts) (suc i) (suc j) t le within = ap (λ l. u ∷ l) (take_before ts i j t (omega arith) (omega arith))

get_before : (ts : List ℕ) (i j t : ℕ) → j < i → i ≤ length ts → slice_get (take i ts ++ t ∷ []) j ≡ slice_get ts j
get_before ts zero j t lt within = absurd (omega arith)
get_before [] (suc i) j t lt within = absurd (omega arith)
get_before (u ∷ ts) (suc i) zero t lt within = refl
get_before (u ∷ ts) (suc i) (suc j) t lt within = get_before ts i j t (omega arith) (omega arith)

get_there : (ts : List ℕ) (i t : ℕ) → i ≤ length ts → slice_get (take i ts ++ t ∷ []) i ≡ Some t
get_there ts zero t within = refl
get_there [] (suc i) t within = absurd (omega arith)
get_there (u ∷ ts) (suc i) t within = get_there ts i t (omega arith)

some_one : {A : Type 0} {x y : A} → Some x ≡ Some y → x ≡ y
some_one e = cc

-- ---- the run

module _ (ts : List ℕ) (i : ℕ) (x : Lexed) (o : StopsAt xpath_grammar ts 200 i) (read : IsReadAt ts i x) where
  abbrev other : List ℕ
  other = take i ts ++ number x b.Name ∷ []

  within : i < length ts
  within = slice_get_within ts i (number x read.0) read.1

  count : length other ≡ i + 1
  count =
      let w = within in
      let taken : length (take i ts) ≡ i = length-take-le i ts (omega arith) in
      length-append (take i ts) (number x b.Name ∷ []) ∙ ap (λ n. n + 1) taken

  whole_of : (j : ℕ) → i < j → Goes (take j other) → Goes other
  whole_of j lt go = let n = count in subst Goes (take_all j other (omega arith)) go

  pub past : (end : End) → IsEnd xpath_grammar other 200 end → is_past end i ≡ true → CouldFollow ts i x
  past e.Whole end h = ([], subst (IsSentence xpath_grammar) (sym (append-nil other)) end.sentence)
  past (e.Stops j) end h = whole_of j (ltb-true i j h) end.before
  past (e.LeftOut j) end h = whole_of j (ltb-true i j h) end.before
  past (e.TooDeep j) end h = whole_of j (ltb-true i j h) end.before

  not_left_out : (j : ℕ) → j ≤ i → IsLeftOutAt xpath_grammar other j → ⊥
  not_left_out j le (t, at, it) = elim (cases_lt j i) [
    | inl lt ↦
        let w = within in
        let there : slice_get ts j ≡ Some t = sym (get_before ts i j (number x b.Name) lt (omega arith)) ∙ at in
        o.clear.not_left_out j (omega arith) (t, there, subst (λ l. IsLeftOut xpath_grammar l t) (take_before ts i j (number x b.Name) le (omega arith)) it)
    | inr ge ↦
        let w = within in
        let is : j ≡ i = omega arith in
        let same : t ≡ number x b.Name = some_one (sym at ∙ ap (slice_get other) is ∙ get_there ts i (number x b.Name) (omega arith)) in
        let so : IsLeftOut xpath_grammar (take i ts) (number x b.Name) =
        subst (λ l. IsLeftOut xpath_grammar l (number x b.Name)) (ap (λ n. take n other) is ∙ take_before ts i i (number x b.Name) (omega arith) (omega arith))
        (subst (IsLeftOut xpath_grammar (take j other)) same it) in
        let own : number x read.0 ≡ number x b.Name = left_out_same (number x read.0) (number x b.Name) (turns x read.0) so.1.1 in
        o.clear.not_left_out i (omega arith) (number x b.Name, read.1 ∙ ap Some own, so)
  ]

  pub not_past : (end : End) → IsEnd xpath_grammar other 200 end → is_past end i ≡ false → CouldFollow ts i x → ⊥
  not_past e.Whole end h go = false≢true (sym h)
  not_past (e.Stops j) end h go =
      let n = count in
      let le : j ≤ i = ltb-false i j h in
      end.terminal (omega arith) (goes_before (take (j + 1) other) (drop (j + 1) other) (subst Goes (sym (take-append-drop (j + 1) other)) go))
  not_past (e.LeftOut j) end h go = not_left_out j (ltb-false i j h) end.left_out
  not_past (e.TooDeep j) end h go =
      let w = within in
      let le : j ≤ i = ltb-false i j h in
      o.clear.not_too_deep j (omega arith) (subst (λ l. IsDeeper xpath_grammar l 200) (take_before ts i j (number x b.Name) le (omega arith)) end.deep)
