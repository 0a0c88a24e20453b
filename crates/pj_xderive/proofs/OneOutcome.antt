-- Tokens have one outcome.
use Rattle.std.proofs.Common.{◌≡◌, ℕ, zero, suc, ◌+◌, ◌<◌, ◌≤◌, ◌⊎◌, inl, inr, true, false, List, [], ◌∷◌, ◌++◌, length, take, Some, refl, sym, ◌∙◌, ap, subst, ⊎_elim, arith, append_assoc}
use Rattle.std.specs.Prelude.{slice_get}
use Rattle.std.proofs.lemmas.Bool.{cases_lt, cases_Bool, false≢true}
use Rattle.std.proofs.lemmas.List.{take_all}
use Rattle.std.proofs.lemmas.Option.{slice_get_within}
use Rattle.pj_ll.specs.declared.parser.End.{End}
use Rattle.pj_ll.specs.declared.parser.End.TheVariants.{Whole, Stops, LeftOut, TooDeep}
use Rattle.pj_ll.specs.Outcome as ll
use Rattle.pj_ll.specs.Outcome.{IsLeftOutAt}
use Rattle.pj_xtokens.specs.Tokens.{Lexed}
use Rattle.pj_xgrammar.specs.declared.terminal.Behind.TheVariants as b
use Rattle.pj_xgrammar.specs.Terminals.{numbers}
use Rattle.pj_xgrammar.specs.XPath.{xpath_grammar}
use Rattle.pj_xgrammar.specs.Standing.{is_left_out_kind, is_left_out_token, stands_apart}
use Rattle.pj_xderive.specs.Expressions.{IsExpression, CanGoOn, IsLeftOut, IsTooDeep, IsWhole, CannotFollow, IsLeftOutFirst, IsTooDeepFirst, IsOutcome}
use Rattle.pj_xderive.specs.Following.{is_past, is_too_deep, terminals_with_last}
use Rattle.pj_xderive.proofs.Deeper.{deep, not_deep}
use Rattle.pj_xderive.proofs.LeftOutNumbers.{none_before, none_within, token_there}
use Rattle.pj_xderive.proofs.Outcomes.{length_numbers, whole, left_out, deep_before, too_deep, number_where_deep, number_where_stopped, stops_at_end, stopped_here, stopped_behind, read_at}
use Rattle.pj_xderive.proofs.Tried.{past, not_past}

-- the shorter beginning of a list begins the longer one
begins : (ts : List Lexed) (i j : ℕ) → i ≤ j → (rest : List Lexed) × (take j ts ≡ take i ts ++ rest)
begins ts zero j le = (take j ts, refl)
begins ts (suc i) zero le = absurd (omega arith)
begins [] (suc i) (suc j) le = ([], refl)
begins (t ∷ ts) (suc i) (suc j) le = let (rest, is) = begins ts i j (omega arith) in (rest, ap (λ l. t ∷ l) is)

module _ (ts : List Lexed) where
  -- what begins a sentence has beginnings that do
  earlier : (i j : ℕ) → i ≤ j → CanGoOn (take j ts) → CanGoOn (take i ts)
  earlier i j le (more, sentence) =
      let (rest, is) = begins ts i j le in
      (rest ++ more, subst IsExpression (ap (λ l. l ++ more) is ∙ append_assoc (take i ts) rest more) sentence)

  whole_begins : (i : ℕ) → i ≤ length ts → IsExpression ts → CanGoOn (take i ts)
  whole_begins i le sentence =
      let (rest, is) = begins ts i (length ts) le in
      (rest, subst IsExpression (sym (take_all (length ts) ts (omega arith)) ∙ is) sentence)

  left_out_within : (i : ℕ) → IsLeftOut ts i → i < length ts
  left_out_within i (inl (t, at, rest)) = subst (λ n. i < n) (length_numbers b.End ts) (slice_get_within (numbers ts) i t at)
  left_out_within i (inr is) = let (x, at, kind) = token_there (slice_get ts i) is in slice_get_within ts i x at

  -- nothing is left out before a place at which tokens begin an expression, and nothing that the grammar has is left out
  left_out_before : (i j : ℕ) → j < i → CanGoOn (take i ts) → (IsLeftOutAt xpath_grammar (numbers ts) j → ⊥) → IsLeftOut ts j → ⊥
  left_out_before i j lt before clear (inl out) = clear out
  left_out_before i j lt before clear (inr is) = none_before ts j i lt before is

  whole_kept : (i : ℕ) → IsWhole ts → i < length ts → IsLeftOut ts i → ⊥
  whole_kept i w lt (inl out) = w.clear.not_left_out i (omega arith) out
  whole_kept i w lt (inr is) = none_within ts i w.expression is

  whole_stops : (i : ℕ) → IsWhole ts → CannotFollow ts i → ⊥
  whole_stops i w s = ⊎_elim
      (λ (lt : i < length ts). s.token lt (whole_begins (i + 1) (omega arith) w.expression))
      (λ (le : length ts ≤ i). let within = s.within in s.at_end (omega arith) w.expression)
      (cases_lt i (length ts))

  whole_left_out : (i : ℕ) → IsWhole ts → IsLeftOutFirst ts i → ⊥
  whole_left_out i w l = whole_kept i w (left_out_within i l.left_out) l.left_out

  whole_too_deep : (i : ℕ) → IsWhole ts → IsTooDeepFirst ts i → ⊥
  whole_too_deep i w d = let within = d.within in w.clear.not_too_deep i (omega arith) d.deep

  stops_before : (i j : ℕ) → j ≤ length ts → i < j → CannotFollow ts i → CanGoOn (take j ts) → ⊥
  stops_before i j within lt s before = s.token (omega arith) (earlier (i + 1) j (omega arith) before)

  stops_left_out : (i j : ℕ) → CannotFollow ts i → IsLeftOutFirst ts j → ⊥
  stops_left_out i j s l = ⊎_elim
      (λ (lt : i < j). let within = left_out_within j l.left_out in stops_before i j (omega arith) lt s l.before)
      (λ (le : j ≤ i). ⊎_elim
      (λ (lt : j < i). left_out_before i j lt s.before (λ out. s.clear.not_left_out j (omega arith) out) l.left_out)
      (λ (ge : i ≤ j). let same : j ≡ i = omega arith in s.kept (subst (IsLeftOut ts) same l.left_out))
      (cases_lt j i))
      (cases_lt i j)

  stops_too_deep : (i j : ℕ) → CannotFollow ts i → IsTooDeepFirst ts j → ⊥
  stops_too_deep i j s d = ⊎_elim
      (λ (lt : i < j). stops_before i j d.within lt s d.before)
      (λ (le : j ≤ i). s.clear.not_too_deep j (omega arith) d.deep)
      (cases_lt i j)

  left_out_too_deep : (i j : ℕ) → IsLeftOutFirst ts i → IsTooDeepFirst ts j → ⊥
  left_out_too_deep i j l d = ⊎_elim
      (λ (lt : i < j). left_out_before j i lt d.before (λ out. d.clear.not_left_out i lt out) l.left_out)
      (λ (le : j ≤ i). ⊎_elim
      (λ (lt : j < i). l.clear.not_too_deep j lt d.deep)
      (λ (ge : i ≤ j).
      let same : j ≡ i = omega arith in
      let apart : stands_apart ts i ≡ true = subst (λ n. stands_apart ts n ≡ true) same (d.reached (subst (IsLeftOut ts) (sym same) l.left_out)) in
      let joined : stands_apart ts i ≡ false = l.reached (subst (IsTooDeep ts) same d.deep) in
      false≢true (sym joined ∙ apart))
      (cases_lt j i))
      (cases_lt i j)

  same_place : (i j : ℕ) → (i < j → ⊥) → (j < i → ⊥) → i ≡ j
  same_place i j a b = ⊎_elim
      (λ (lt : i < j). absurd (a lt))
      (λ (le : j ≤ i). ⊎_elim (λ (lt : j < i). absurd (b lt)) (λ (ge : i ≤ j). omega arith) (cases_lt j i))
      (cases_lt i j)

  pub one_outcome : (a b : End) → IsOutcome ts a → IsOutcome ts b → a ≡ b
  one_outcome Whole Whole x y = refl
  one_outcome Whole (Stops j) x y = absurd (whole_stops j x y)
  one_outcome Whole (LeftOut j) x y = absurd (whole_left_out j x y)
  one_outcome Whole (TooDeep j) x y = absurd (whole_too_deep j x y)
  one_outcome (Stops i) Whole x y = absurd (whole_stops i y x)
  one_outcome (Stops i) (Stops j) x y =
      ap Stops (same_place i j (λ lt. stops_before i j y.within lt x y.before) (λ lt. stops_before j i x.within lt y x.before))
  one_outcome (Stops i) (LeftOut j) x y = absurd (stops_left_out i j x y)
  one_outcome (Stops i) (TooDeep j) x y = absurd (stops_too_deep i j x y)
  one_outcome (LeftOut i) Whole x y = absurd (whole_left_out i y x)
  one_outcome (LeftOut i) (Stops j) x y = absurd (stops_left_out j i y x)
  one_outcome (LeftOut i) (LeftOut j) x y =
      ap LeftOut (same_place i j
      (λ lt. left_out_before j i lt y.before (λ out. y.clear.not_left_out i lt out) x.left_out)
      (λ lt. left_out_before i j lt x.before (λ out. x.clear.not_left_out j lt out) y.left_out))
  one_outcome (LeftOut i) (TooDeep j) x y = absurd (left_out_too_deep i j x y)
  one_outcome (TooDeep i) Whole x y = absurd (whole_too_deep i y x)
  one_outcome (TooDeep i) (Stops j) x y = absurd (stops_too_deep j i y x)
  one_outcome (TooDeep i) (LeftOut j) x y = absurd (left_out_too_deep j i y x)
  one_outcome (TooDeep i) (TooDeep j) x y =
      ap TooDeep (same_place i j (λ lt. y.clear.not_too_deep i lt x.deep) (λ lt. x.clear.not_too_deep j lt y.deep))

-- ---- an outcome

token_at : (ts : List Lexed) (i : ℕ) → i < length ts → (x : Lexed) × (slice_get ts i ≡ Some x)
token_at [] i lt = absurd (omega arith)
token_at (x ∷ ts) zero lt = (x, refl)
token_at (x ∷ ts) (suc i) lt = token_at ts i (omega arith)

-- the place where too much is open, or a number right there
deep_or_left_out : (ts : List Lexed) (i : ℕ) → ll.IsTooDeepFirst xpath_grammar (numbers ts) 200 i → (end : End) × IsOutcome ts end
deep_or_left_out ts i o = ⊎_elim
    (λ (apart : stands_apart ts i ≡ true). (TooDeep i, too_deep ts i o (λ _. apart)))
    (λ (joined : stands_apart ts i ≡ false). ⊎_elim
    (λ (number : is_left_out_token (slice_get ts i) ≡ true). (LeftOut i, number_where_deep ts i o number joined))
    (λ (plain : is_left_out_token (slice_get ts i) ≡ false). (TooDeep i, too_deep ts i o (λ is. absurd (false≢true (sym plain ∙ is)))))
    (cases_Bool (is_left_out_token (slice_get ts i))))
    (cases_Bool (stands_apart ts i))

-- where a run over any terminals has an end
module _ (end_of : (terminals : List ℕ) → (end : End) × ll.IsEnd xpath_grammar terminals 200 end) where
  stopped : (ts : List Lexed) (i : ℕ) → ll.StopsAt xpath_grammar (numbers ts) 200 i → (end : End) × IsOutcome ts end
  stopped ts i o = ⊎_elim
      (λ (lt : i < length ts).
      let (x, at) = token_at ts i lt in
      let read = read_at ts i x at in
      let (end, it) = end_of (terminals_with_last (numbers ts) i x) in
      ⊎_elim
      (λ (number : is_left_out_kind x.kind ≡ true). (LeftOut i, number_where_stopped ts i o (ap is_left_out_token at ∙ number)))
      (λ (plain : is_left_out_kind x.kind ≡ false). ⊎_elim
      (λ (h : is_past end i ≡ true). (Stops (i + 1), stopped_behind ts i x at o (past (numbers ts) i x o read end it h)))
      (λ (h : is_past end i ≡ false). (Stops i, stopped_here ts i x at o plain (not_past (numbers ts) i x o read end it h)))
      (cases_Bool (is_past end i)))
      (cases_Bool (is_left_out_kind x.kind)))
      (λ (le : length ts ≤ i). (Stops i, stops_at_end ts i o le))
      (cases_lt i (length ts))

  -- what is left out, or the place where too much is open before it
  pub left_out_or_deep : (ts : List Lexed) (i : ℕ) → ll.IsLeftOutFirst xpath_grammar (numbers ts) 200 i →
      (end : End) × IsOutcome ts end × ((end ≡ LeftOut i) ⊎ (end ≡ TooDeep i))
  left_out_or_deep ts i o = ⊎_elim
      (λ (apart : stands_apart ts i ≡ true).
      let (t, at, it) = o.left_out in
      let within : i < length (numbers ts) = slice_get_within (numbers ts) i t at in
      let (end, is) = end_of (take i (numbers ts)) in
      ⊎_elim
      (λ (h : is_too_deep end ≡ true). (TooDeep i, deep_before ts i o (deep (numbers ts) i (omega arith) o.before o.clear end is h) apart, inr refl))
      (λ (h : is_too_deep end ≡ false). (LeftOut i, left_out ts i o (λ there. absurd (not_deep (numbers ts) i (omega arith) o.before o.clear end is h there)), inl refl))
      (cases_Bool (is_too_deep end)))
      (λ (joined : stands_apart ts i ≡ false). (LeftOut i, left_out ts i o (λ _. joined), inl refl))
      (cases_Bool (stands_apart ts i))

  pub some_outcome : (ts : List Lexed) → (end : End) × IsOutcome ts end
  some_outcome ts = of_end (end_of (numbers ts)).0 (end_of (numbers ts)).1
    where
      of_end : (end : End) → ll.IsEnd xpath_grammar (numbers ts) 200 end → (end : End) × IsOutcome ts end
      of_end Whole it = (Whole, whole ts it)
      of_end (Stops i) it = stopped ts i it
      of_end (LeftOut i) it = let (end, is, place) = left_out_or_deep ts i it in (end, is)
      of_end (TooDeep i) it = deep_or_left_out ts i it
