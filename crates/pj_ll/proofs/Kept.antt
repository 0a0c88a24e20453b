-- In a sentence of a predictive grammar nothing is left out.
use Rattle.std.proofs.Common.{◌≡◌, ℕ, zero, suc, List, [], ◌∷◌, ◌++◌, take, Some, slice_get, refl, sym, ◌∙◌, ap, subst}
use Rattle.std.proofs.lemmas.Option.{same_Some}
use Rattle.pj_ll.specs.declared.grammar.Symbol.{Symbol}
use Rattle.pj_ll.specs.declared.grammar.Symbol.TheVariants.{LeftOut}
use Rattle.pj_ll.specs.Grammar.{Entry, Grammar, Line, grammar_of}
use Rattle.pj_ll.specs.Leads.{Leads, Derives, stay, take_terminal, close, expand}
use Rattle.pj_ll.specs.Outcome.{IsLeftOutAt}
use Rattle.pj_ll.specs.Parsing.{IsNext, IsStacked, IsStack}
use Rattle.pj_ll.specs.Predictive.{RuleFacts, IsPredictive}
use Rattle.pj_ll.proofs.Chosen.{chosen, replaced, none_first}
use Rattle.pj_ll.proofs.Lines.{line_there}
use Rattle.pj_ll.proofs.Moving.{start_stack}

-- the terminal that comes first, where this one stands behind the others
first_of : List ℕ → ℕ → ℕ
first_of [] t = t
first_of (u ∷ us) t = u

not_empty : (us vs : List ℕ) (t : ℕ) → [] ≡ us ++ t ∷ vs → ⊥
not_empty [] vs t e = let z = e in cc
not_empty (u ∷ us) vs t e = let z = e in cc

first_next : (us vs : List ℕ) (t : ℕ) (after : List Symbol) → IsNext (us ++ t ∷ vs) after (Some (first_of us t))
unfolding first_of
first_next [] vs t after = refl
first_next (u ∷ us) vs t after = refl

out_next : (us : List ℕ) (t : ℕ) (ss : List Symbol) → IsNext us (LeftOut t ∷ ss) (Some (first_of us t))
unfolding first_of
out_next [] t ss = refl
out_next (u ∷ us) t ss = refl

-- the terminals before a place, the one there, and those behind it
cut : (ts : List ℕ) (i t : ℕ) → slice_get ts i ≡ Some t → (vs : List ℕ) × (ts ≡ take i ts ++ t ∷ vs)
cut [] i t at = absurd (let z = at in cc)
cut (u ∷ ts) zero t at = (ts, ap (λ k. k ∷ ts) (same_Some u t at))
cut (u ∷ ts) (suc i) t at = let (vs, is) = cut ts i t at in (vs, ap (λ l. u ∷ l) is)

module _ (fs : List RuleFacts) (ps : List Entry) (ok : IsPredictive fs ps) where
  abbrev G : Grammar
  G = grammar_of ps

  out_stays : {ss after : List Symbol} {us qs : List ℕ} (t u : ℕ) → Leads G (LeftOut t ∷ ss) (u ∷ us) qs after → ⊥
  out_stays t u d = elim d [ ]

  out_leads : {ss after : List Symbol} {all qs : List ℕ} (t u : ℕ) (end : List Symbol) (us : List ℕ) → Leads G ss all qs after → ss ≡ LeftOut t ∷ end → all ≡ u ∷ us → ⊥
  out_leads {ss} {after} {all} {qs} t u end us d ends is =
      out_stays t u (subst (λ l. Leads G l (u ∷ us) qs after) ends (subst (λ l. Leads G ss l qs after) is d))

  -- where terminals lead to a construct that is left out, its terminal cannot follow them
  cannot_follow : {ss to after : List Symbol} {us all rs qs : List ℕ} (t : ℕ) (vs : List ℕ) (end : List Symbol) →
      Leads G ss us rs to → Leads G ss all qs after → to ≡ LeftOut t ∷ end → all ≡ us ++ t ∷ vs → IsStack fs ss → ⊥
  cannot_follow t vs end stay d ends is stack = out_leads t t end vs d ends is
  cannot_follow t vs end (take_terminal {ts = us} u e) stay ends is stack = not_empty (u ∷ us) vs t is
  cannot_follow t vs end (take_terminal {ss} {ts = us} u e) (take_terminal {ts = all} v d) ends is stack =
      let behind : all ≡ us ++ t ∷ vs = cc in
      cannot_follow t vs end e d ends behind (record { stacked = stack.stacked; left_out = none_first ss stack.left_out })
  cannot_follow t vs end (close {ts = us} e) stay ends is stack = not_empty us vs t is
  cannot_follow t vs end (close {ss} e) (close d) ends is stack =
      cannot_follow t vs end e d ends is (record { stacked = stack.stacked; left_out = none_first ss stack.left_out })
  cannot_follow t vs end (expand {ts = us} n p line at rule e) stay ends is stack = not_empty us vs t is
  cannot_follow t vs end (expand {ss} {ts = us} {ps = rs} {after = to} n p line at rule e) (expand {ts = all} {ps = qs} {after} m q other there same d) ends is stack =
      let (x, x_at, x_is) = line_there ps p line at in
      let (y, y_at, y_is) = line_there ps q other there in
      let x_rule : x.rule ≡ n = ap (λ (l : Line). l.rule) (sym x_is) ∙ rule in
      let y_rule : y.rule ≡ n = ap (λ (l : Line). l.rule) (sym y_is) ∙ same in
      let b = Some (first_of us t) in
      let e' : Leads G (x.symbols ++ ss) us rs to = subst (λ (l : Line). Leads G (l.symbols ++ ss) us rs to) x_is e in
      let d' : Leads G (y.symbols ++ ss) all qs after = subst (λ (l : Line). Leads G (l.symbols ++ ss) all qs after) y_is d in
      let x_on = chosen fs ps ok x p b x_at (subst (λ k. IsStacked fs k ss) (sym x_rule) stack.stacked.0) e'
      (subst (λ l. IsNext us l b) (sym ends) (out_next us t end)) in
      let y_on = chosen fs ps ok y q b y_at (subst (λ k. IsStacked fs k ss) (sym y_rule) stack.stacked.0) d'
      (subst (λ l. IsNext l after b) (sym is) (first_next us vs t after)) in
      let one : p ≡ q = ok.one p q x y b x_at y_at (x_rule ∙ sym y_rule) x_on y_on in
      let it : other ≡ line = same_Some other line (sym (subst (λ k. slice_get G k ≡ Some other) (sym one) there) ∙ at) in
      cannot_follow t vs end e (subst (λ (l : Line). Leads G (l.symbols ++ ss) all qs after) it d) ends is
      (subst (λ (l : Line). IsStack fs (l.symbols ++ ss)) (sym x_is) (replaced fs ps ok x p x_at x_rule stack))

  pub not_left_out : (ts qs : List ℕ) → Derives G ts qs → (i : ℕ) → IsLeftOutAt G ts i → ⊥
  not_left_out ts qs d i out =
      let (t, at, way) = out in
      let (rs, to) = way in
      let (ss, e) = to in
      let (vs, is) = cut ts i t at in
      cannot_follow t vs ss e d refl is (start_stack fs ps ok)
