-- A list of terminals has an end of a run, in a predictive grammar.
use Rattle.std.proofs.Common.{◌≡◌, ℕ, zero, suc, ◌+◌, ◌<◌, ◌≤◌, ◌⊎◌, true, false, List, [], ◌∷◌, ◌++◌, length, Option, Some, None, refl, sym, ◌∙◌, ap, subst, inl, inr, ⊎_elim, arith}
use Rattle.std.specs.Prelude.{slice_get}
use Rattle.std.proofs.lemmas.Bool.{cases_lt}
use Rattle.std.proofs.lemmas.List.{append-nil}
use Rattle.pj_ll.specs.declared.grammar.Symbol.{Symbol}
use Rattle.pj_ll.specs.declared.grammar.Symbol.TheVariants as s
use Rattle.pj_ll.specs.declared.parser.End.{End}
use Rattle.pj_ll.specs.declared.parser.End.TheVariants.{Whole, Stops, LeftOut, TooDeep}
use Rattle.pj_ll.specs.Grammar.{Entry, grammar_of, closes}
use Rattle.pj_ll.specs.Leads.{start}
use Rattle.pj_ll.specs.Outcome.{IsEnd}
use Rattle.pj_ll.specs.Predictive.{RuleFacts, weight_of, IsChosenAt, IsPredictive}
use Rattle.pj_ll.specs.Table.{IsChoice}
use Rattle.pj_ll.specs.Stack.{behind_top}
use Rattle.pj_ll.specs.Parsing.{rests, IsStack, IsMoving, HasMoved, HasComeTo}
use Rattle.pj_ll.proofs.Lists.{some_one, same_or, in_or_not, bool_cases, found}
use Rattle.pj_ll.proofs.Chosen.{none_first}
use Rattle.pj_ll.proofs.Going.{moves_close, moves_replace, lighter}
use Rattle.pj_ll.proofs.Places.{at_first, past, stops, too_deep, left_out, whole, stops_at_end, too_deep_at_end}

chosen_or_not : (x : Entry) (a : Option ℕ) → IsChosenAt x a ⊎ (IsChosenAt x a → ⊥)
chosen_or_not x (Some t) = in_or_not x.on t
chosen_or_not x None = ⊎_elim (λ e. inl e) (λ (e : x.at_end ≡ false). inr (λ (h : x.at_end ≡ true). let z : true ≡ false = sym h ∙ e in cc)) (bool_cases x.at_end)

not_first : (x : Entry) (es : List Entry) (n : ℕ) (a : Option ℕ) → (x.rule ≡ n → IsChosenAt x a → ⊥) → (o : Option ℕ) × IsChoice es n a o → (o : Option ℕ) × IsChoice (x ∷ es) n a o
not_first x es n a differs (Some p, (y, at, rule, chosen)) = (Some (suc p), (y, at, rule, chosen))
not_first x es n a differs (None, none) = (None, later)
  where
    later : (p : ℕ) (y : Entry) → slice_get (x ∷ es) p ≡ Some y → y.rule ≡ n → IsChosenAt y a → ⊥
    later zero y at rule chosen =
        let same : x ≡ y = some_one at in
        differs (ap (λ (z : Entry). z.rule) same ∙ rule) (subst (λ (z : Entry). IsChosenAt z a) (sym same) chosen)
    later (suc p) y at rule chosen = none p y at rule chosen

choose : (es : List Entry) (n : ℕ) (a : Option ℕ) → (o : Option ℕ) × IsChoice es n a o
choose [] n a = (None, λ p x at rule chosen. let z = at in cc)
choose (x ∷ es) n a = ⊎_elim
    (λ (rule : x.rule ≡ n). ⊎_elim
    (λ (chosen : IsChosenAt x a). (Some 0, (x, refl, rule, chosen)))
    (λ (not : IsChosenAt x a → ⊥). not_first x es n a (λ r. not) (choose es n a))
    (chosen_or_not x a))
    (λ (other : x.rule ≡ n → ⊥). not_first x es n a (λ r. absurd (other r)) (choose es n a))
    (same_or x.rule n)

same_terminal : {t u : ℕ} {ss us : List Symbol} → s.Terminal t ∷ ss ≡ s.Terminal u ∷ us → t ≡ u
same_terminal e = cc

same_left_out : {t u : ℕ} {ss us : List Symbol} → s.LeftOut t ∷ ss ≡ s.LeftOut u ∷ us → t ≡ u
same_left_out e = cc

terminal_first : (t : ℕ) (ss : List Symbol) → (ss ≡ s.Terminal t ∷ behind_top ss) ⊎ (ss ≡ s.Terminal t ∷ behind_top ss → ⊥)
terminal_first t [] = inr (λ e. let z = e in cc)
terminal_first t (s.Terminal u ∷ ss) = ⊎_elim (λ e. inl (ap (λ n. s.Terminal n ∷ ss) e)) (λ d. inr (λ e. d (same_terminal e))) (same_or u t)
terminal_first t (s.Rule n ∷ ss) = inr (λ e. let z = e in cc)
terminal_first t (s.LeftOut u ∷ ss) = inr (λ e. let z = e in cc)
terminal_first t (s.Close ∷ ss) = inr (λ e. let z = e in cc)

left_out_first : (t : ℕ) (ss : List Symbol) → (ss ≡ s.LeftOut t ∷ behind_top ss) ⊎ (ss ≡ s.LeftOut t ∷ behind_top ss → ⊥)
left_out_first t [] = inr (λ e. let z = e in cc)
left_out_first t (s.Terminal u ∷ ss) = inr (λ e. let z = e in cc)
left_out_first t (s.Rule n ∷ ss) = inr (λ e. let z = e in cc)
left_out_first t (s.LeftOut u ∷ ss) = ⊎_elim (λ e. inl (ap (λ n. s.LeftOut n ∷ ss) e)) (λ d. inr (λ e. d (same_left_out e))) (same_or u t)
left_out_first t (s.Close ∷ ss) = inr (λ e. let z = e in cc)

nothing_left : (ss : List Symbol) → (ss ≡ []) ⊎ (ss ≡ [] → ⊥)
nothing_left [] = inl refl
nothing_left (x ∷ ss) = inr (λ e. let z = e in cc)

module _ (fs : List RuleFacts) (es : List Entry) (ok : IsPredictive fs es) where
  -- the parser comes to where it moves no further
  record Settles (a : Option ℕ) (ss : List Symbol) (qs : List ℕ) : Type 0 where
    stack : List Symbol
    productions : List ℕ
    moved : HasMoved fs es a ss qs stack productions

  settle : (k : ℕ) (a : Option ℕ) (from ss : List Symbol) (first qs : List ℕ) → weight_of fs ss < k → IsMoving fs es a from first ss qs → Settles a from first
  settle zero a from ss first qs lt m = absurd (omega arith)
  settle (suc k) a from [] first qs lt m = record { stack = []; productions = qs; moved = record { moving = m; settled = tt } }
  settle (suc k) a from (s.Terminal t ∷ ss) first qs lt m = record { stack = s.Terminal t ∷ ss; productions = qs; moved = record { moving = m; settled = tt } }
  settle (suc k) a from (s.LeftOut t ∷ ss) first qs lt m = record { stack = s.LeftOut t ∷ ss; productions = qs; moved = record { moving = m; settled = tt } }
  settle (suc k) a from (s.Close ∷ ss) first qs lt m = settle k a from ss first qs (omega arith) (moves_close fs es ok m)
  settle (suc k) a from (s.Rule n ∷ ss) first qs lt m =
      replace n ss qs m (choose es n a) (λ p x at rule. let less = lighter fs es ok n p x ss at rule in settle k a from (x.symbols ++ ss) first (qs ++ p ∷ []) (omega arith))
    where
      replace : (n : ℕ) (ss : List Symbol) (qs : List ℕ) → IsMoving fs es a from first (s.Rule n ∷ ss) qs → (o : Option ℕ) × IsChoice es n a o →
          ((p : ℕ) (x : Entry) → slice_get es p ≡ Some x → x.rule ≡ n → IsMoving fs es a from first (x.symbols ++ ss) (qs ++ p ∷ []) → Settles a from first) → Settles a from first
      replace n ss qs m (None, none) go_on = record { stack = s.Rule n ∷ ss; productions = qs; moved = record { moving = m; settled = none } }
      replace n ss qs m (Some p, (x, at, rule, chosen)) go_on = go_on p x at rule (moves_replace fs es ok n p x m at rule chosen)

  moves : (a : Option ℕ) (ss : List Symbol) (qs : List ℕ) → IsStack fs ss → Settles a ss qs
  moves a ss qs stack =
      settle (weight_of fs ss + 1) a ss ss qs qs (omega arith) (record { moved = []; productions_are = sym (append-nil qs); moves = rests; stack = stack })

  module _ (ts : List ℕ) (deepest : ℕ) where
    at_end : (ss : List Symbol) (qs : List ℕ) → HasComeTo fs es ts deepest (length ts) ss qs → (end : End) × IsEnd (grammar_of es) ts deepest end
    at_end ss qs come =
        let m = moves None ss qs (record { stacked = come.stacked; left_out = none_first ss come.kept }) in
        ⊎_elim
        (λ (lt : deepest < closes ss). (TooDeep (length ts), (too_deep_at_end fs es ok ts deepest ss qs come m.stack m.productions m.moved lt).ends))
        (λ (few : closes ss ≤ deepest). ⊎_elim
        (λ (e : m.stack ≡ []). (Whole, (whole fs es ok ts deepest ss qs come m.stack m.productions m.moved few e).ends))
        (λ (d : m.stack ≡ [] → ⊥). (Stops (length ts), (stops_at_end fs es ok ts deepest ss qs come m.stack m.productions m.moved few d).ends))
        (nothing_left m.stack))
        (cases_lt deepest (closes ss))

    from_place : (k i : ℕ) (ss : List Symbol) (qs : List ℕ) → i + k ≡ length ts → HasComeTo fs es ts deepest i ss qs → (end : End) × IsEnd (grammar_of es) ts deepest end
    from_place zero i ss qs sum come =
        let last : i ≡ length ts = omega arith in at_end ss qs (subst (λ n. HasComeTo fs es ts deepest n ss qs) last come)
    from_place (suc k) i ss qs sum come =
        let (t, at) = found ts i (omega arith) in
        let m = moves (Some t) ss qs (record { stacked = come.stacked; left_out = none_first ss come.kept }) in
        ⊎_elim
        (λ (out : m.stack ≡ s.LeftOut t ∷ behind_top m.stack). (LeftOut i, (left_out fs es ok ts deepest i ss qs come t m.stack m.productions m.moved at out).ends))
        (λ (kept : m.stack ≡ s.LeftOut t ∷ behind_top m.stack → ⊥). ⊎_elim
        (λ (lt : deepest < closes ss). (TooDeep i, (too_deep fs es ok ts deepest i ss qs come t m.stack m.productions m.moved at kept lt).ends))
        (λ (few : closes ss ≤ deepest). ⊎_elim
        (λ (top : m.stack ≡ s.Terminal t ∷ behind_top m.stack).
        from_place k (i + 1) (behind_top m.stack) m.productions (omega arith) (past fs es ok ts deepest i ss qs come t m.stack m.productions m.moved at kept few top))
        (λ (other : m.stack ≡ s.Terminal t ∷ behind_top m.stack → ⊥).
        (Stops i, (stops fs es ok ts deepest i ss qs come t m.stack m.productions m.moved at kept few other).ends))
        (terminal_first t m.stack))
        (cases_lt deepest (closes ss)))
        (left_out_first t m.stack)

    pub some_end : (end : End) × IsEnd (grammar_of es) ts deepest end
    some_end = from_place (length ts) 0 start [] (omega arith) (at_first fs es ok ts deepest)
