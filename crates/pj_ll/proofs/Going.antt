-- The parser's moves one behind the other, and that they end.
use Rattle.std.proofs.Common.{◌≡◌, ℕ, ◌+◌, ◌<◌, Bool, true, false, List, [], ◌∷◌, ◌++◌, Option, Some, refl, sym, ◌∙◌, ap, subst, arith, append_assoc}
use Rattle.std.specs.Prelude.{slice_get, cond}
use Rattle.std.proofs.lemmas.List.{append-nil}
use Rattle.pj_ll.specs.Grammar.{Entry}
use Rattle.pj_ll.specs.declared.grammar.Symbol.{Symbol}
use Rattle.pj_ll.specs.declared.grammar.Symbol.TheVariants.{Rule, Close}
use Rattle.pj_ll.specs.Predictive.{RuleFacts, fact_at, nullable_of, weight_of, IsChosenAt, IsPredictive}
use Rattle.pj_ll.specs.Parsing.{Moves, rests, closes_one, replaces, IsMoving}
use Rattle.pj_ll.proofs.Sets.{weight_append}
use Rattle.pj_ll.proofs.Chosen.{replaced, none_first}

module _ (ps : List Entry) where
  pub moves_join : {a : Option ℕ} {ss mid : List Symbol} {qs : List ℕ} (rs : List ℕ) (end : List Symbol) → Moves ps a ss qs mid → Moves ps a mid rs end → Moves ps a ss (qs ++ rs) end
  moves_join rs end rests n = n
  moves_join rs end (closes_one m) n = closes_one (moves_join rs end m n)
  moves_join rs end (replaces n p x at rule here m) k = replaces n p x at rule here (moves_join rs end m k)

lighter_by : (b c : Bool) (w x y : ℕ) → (b ≡ true → c ≡ true) → x < w → x + cond b y 0 < w + cond c y 0
lighter_by true true w x y h lt = omega arith
lighter_by true false w x y h lt = absurd (let z = h refl in cc)
lighter_by false true w x y h lt = omega arith
lighter_by false false w x y h lt = omega arith

module _ (fs : List RuleFacts) (ps : List Entry) (ok : IsPredictive fs ps) where
  -- what stands on the stack weighs less after a rule is replaced
  pub lighter : (n p : ℕ) (x : Entry) (ss : List Symbol) → slice_get ps p ≡ Some x → x.rule ≡ n → weight_of fs (x.symbols ++ ss) < weight_of fs (Rule n ∷ ss)
  lighter n p x ss at rule =
      let fits = ok.each p x at in
      let less = lighter_by (nullable_of fs x.symbols) (fact_at fs n).nullable (fact_at fs n).weight (weight_of fs x.symbols) (weight_of fs ss)
      (λ e. subst (λ m. (fact_at fs m).nullable ≡ true) rule (fits.nullable e))
      (subst (λ m. weight_of fs x.symbols < (fact_at fs m).weight) rule fits.lighter) in
      let both = weight_append fs x.symbols ss in
      omega arith

  pub moves_close : {a : Option ℕ} {ss ss' : List Symbol} {qs qs' : List ℕ} → IsMoving fs ps a ss qs (Close ∷ ss') qs' → IsMoving fs ps a ss qs ss' qs'
  moves_close {ss' = ss'} {qs} m = record {
    moved = m.moved ++ [];
    productions_are = m.productions_are ∙ ap (λ l. qs ++ l) (sym (append-nil m.moved));
    moves = moves_join ps [] ss' m.moves (closes_one rests);
    stack = record { stacked = m.stack.stacked; left_out = none_first ss' m.stack.left_out };
  }

  pub moves_replace : {a : Option ℕ} {ss ss' : List Symbol} {qs qs' : List ℕ} (n p : ℕ) (x : Entry) → IsMoving fs ps a ss qs (Rule n ∷ ss') qs' →
      slice_get ps p ≡ Some x → x.rule ≡ n → IsChosenAt x a → IsMoving fs ps a ss qs (x.symbols ++ ss') (qs' ++ p ∷ [])
  moves_replace {ss' = ss'} {qs} n p x m at rule here = record {
    moved = m.moved ++ p ∷ [];
    productions_are = ap (λ l. l ++ p ∷ []) m.productions_are ∙ append_assoc qs m.moved (p ∷ []);
    moves = moves_join ps (p ∷ []) (x.symbols ++ ss') m.moves (replaces n p x at rule here rests);
    stack = replaced fs ps ok x p at rule m.stack;
  }
