-- In a predictive grammar each derivation goes the way that the parser moves.
use Rattle.std.proofs.Common.{◌≡◌, ℕ, List, [], ◌∷◌, ◌++◌, Option, Some, None, refl, sym, ◌∙◌, ap, subst}
use Rattle.std.specs.Prelude.{slice_get}
use Rattle.pj_ll.specs.declared.grammar.Symbol.{Symbol}
use Rattle.pj_ll.specs.declared.grammar.Symbol.TheVariants.{Terminal, LeftOut, Close}
use Rattle.pj_ll.specs.Grammar.{Entry, Grammar, Line, grammar_of}
use Rattle.pj_ll.proofs.Lines.{line_there}
use Rattle.pj_ll.specs.Leads.{Leads, stay, take_terminal, close, expand, Behind, at_start, behind, start}
use Rattle.pj_ll.specs.Predictive.{RuleFacts, IsPredictive}
use Rattle.pj_ll.specs.Parsing.{IsNext, Moves, rests, closes_one, replaces, IsSettled, IsStacked, AreStacked, IsStack}
use Rattle.pj_ll.proofs.Lists.{some_same, same_front, same_last, push_some}
use Rattle.pj_ll.proofs.Chosen.{goes_on, chosen, replaced, start_stacked, none_first}

module _ (fs : List RuleFacts) (ps : List Entry) (ok : IsPredictive fs ps) where
  abbrev G : Grammar
  G = grammar_of ps

  pub moves_stack : {a : Option ℕ} {ss after : List Symbol} {qs : List ℕ} → Moves ps a ss qs after → IsStack fs ss → IsStack fs after
  moves_stack rests stack = stack
  moves_stack (closes_one {ss} m) stack = moves_stack m (record { stacked = stack.stacked; left_out = none_first ss stack.left_out })
  moves_stack (replaces n p x at rule here m) stack = moves_stack m (replaced fs ps ok x p at rule stack)

  -- the rest of a derivation that begins as the parser moved
  pub record Rest (ss : List Symbol) (ts qs rs : List ℕ) (after : List Symbol) : Type 0 where
    pub rest : List ℕ
    pub begins : rs ≡ qs ++ rest
    pub leads : Leads G ss ts rest after

  closed : {ss after : List Symbol} {ts rs : List ℕ} (a : Option ℕ) → IsNext ts after a → Leads G (Close ∷ ss) ts rs after → Leads G ss ts rs after
  closed a next stay = absurd next
  closed a next (close d) = d

  pub same_way : {a : Option ℕ} {ss end : List Symbol} {qs : List ℕ} (ts rs : List ℕ) (after : List Symbol) → Moves ps a ss qs end → IsStack fs ss →
      IsNext ts after a → Leads G ss ts rs after → Rest end ts qs rs after
  same_way ts rs after rests stack next d = record { rest = rs; begins = refl; leads = d }
  same_way {a} ts rs after (closes_one {ss} m) stack next d =
      same_way ts rs after m (record { stacked = stack.stacked; left_out = none_first ss stack.left_out }) next (closed a next d)
  same_way {a} ts rs after (replaces {ss} n p x at rule here m) stack next d =
      let on = goes_on fs ps ok a stack.stacked.0 d next in
      let same : on.number ≡ p = ok.one on.number p on.production x a on.there at (on.rule ∙ sym rule) on.chosen_at here in
      let it : on.production ≡ x = some_same (subst (λ k. slice_get ps k ≡ Some on.production) same on.there) at in
      let way = same_way ts on.rest after m (replaced fs ps ok x p at rule stack) next
      (subst (λ (y : Entry). Leads G (y.symbols ++ ss) ts on.rest after) it on.leads) in
      record {
        rest = way.rest;
        begins = on.begins ∙ ap (λ k. k ∷ on.rest) same ∙ ap (λ l. p ∷ l) way.begins;
        leads = way.leads;
      }

  -- where the parser moves no further, a derivation can only take the terminal that comes next
  pub taken : {ss after : List Symbol} (t : ℕ) (us rs : List ℕ) → IsSettled ps (Some t) ss → AreStacked fs ss → Leads G ss (t ∷ us) rs after →
      (rest : List Symbol) × (ss ≡ Terminal t ∷ rest) × Leads G rest us rs after
  taken t us rs settled are (take_terminal {ss} u d) = (ss, refl, d)
  taken t us rs settled are (close d) = absurd settled
  taken t us rs settled are (expand n p line at rule d) =
      let on = goes_on fs ps ok (Some t) are.0 (expand n p line at rule d) refl in
      absurd (settled on.number on.production on.there on.rule on.chosen_at)

  -- nor can it come to what is left out, unless that is on top
  pub left_out_on_top : {ss behind : List Symbol} {rs : List ℕ} (t : ℕ) → IsSettled ps (Some t) ss → AreStacked fs ss → Leads G ss [] rs (LeftOut t ∷ behind) →
      ss ≡ LeftOut t ∷ behind
  left_out_on_top t settled are stay = refl
  left_out_on_top t settled are (close d) = absurd settled
  left_out_on_top t settled are (expand n p line at rule d) =
      let on = goes_on fs ps ok (Some t) are.0 (expand n p line at rule d) refl in
      absurd (settled on.number on.production on.there on.rule on.chosen_at)

  pub ended : {ss : List Symbol} {rs : List ℕ} → IsSettled ps None ss → AreStacked fs ss → Leads G ss [] rs [] → ss ≡ []
  ended settled are stay = refl
  ended settled are (close d) = absurd settled
  ended settled are (expand n p line at rule d) =
      let on = goes_on fs ps ok None are.0 (expand n p line at rule d) refl in
      absurd (settled on.number on.production on.there on.rule on.chosen_at)

  next_of : (ts : List ℕ) (a : Option ℕ) → Option ℕ
  next_of [] a = a
  next_of (t ∷ ts) a = Some t

  next_is : (ts : List ℕ) (after : List Symbol) (a : Option ℕ) → IsNext [] after a → IsNext ts after (next_of ts a)
  unfolding next_of
  next_is [] after a h = h
  next_is (t ∷ ts) after a h = refl

  after_terminal : {ss after : List Symbol} {ts qs : List ℕ} (t u : ℕ) → Leads G (Terminal t ∷ ss) (u ∷ ts) qs after → Leads G ss ts qs after
  after_terminal t u (take_terminal v d) = d

  -- two derivations of the same terminals that come to the same thing are one
  pub unique : {ss after : List Symbol} {ts qs : List ℕ} (rs : List ℕ) (end : List Symbol) (a : Option ℕ) → Leads G ss ts qs after → Leads G ss ts rs end →
      IsStack fs ss → IsNext [] after a → IsNext [] end a → (qs ≡ rs) × (after ≡ end)
  unique rs end a stay stay stack next also = (refl, refl)
  unique rs end a stay (close d) stack next also = absurd next
  unique rs end a stay (expand n p line at rule d) stack next also = absurd next
  unique rs end a (take_terminal {ss} t d) e stack next also =
      unique rs end a d (after_terminal t t e) (record { stacked = stack.stacked; left_out = none_first ss stack.left_out }) next also
  unique rs end a (close d) stay stack next also = absurd also
  unique rs end a (close {ss} d) (close e) stack next also =
      unique rs end a d e (record { stacked = stack.stacked; left_out = none_first ss stack.left_out }) next also
  unique rs end a (expand n p line at rule d) stay stack next also = absurd also
  unique rs end a (expand {ss} {ts} {ps = qs} {after} n p line at rule d) (expand {ps = rest} m q other there same e) stack next also =
      let (x, x_at, x_is) = line_there ps p line at in
      let (y, y_at, y_is) = line_there ps q other there in
      let x_rule : x.rule ≡ n = ap (λ (l : Line). l.rule) (sym x_is) ∙ rule in
      let y_rule : y.rule ≡ n = ap (λ (l : Line). l.rule) (sym y_is) ∙ same in
      let b = next_of ts a in
      let d' : Leads G (x.symbols ++ ss) ts qs after = subst (λ (l : Line). Leads G (l.symbols ++ ss) ts qs after) x_is d in
      let e' : Leads G (y.symbols ++ ss) ts rest end = subst (λ (l : Line). Leads G (l.symbols ++ ss) ts rest end) y_is e in
      let x_on = chosen fs ps ok x p b x_at (subst (λ k. IsStacked fs k ss) (sym x_rule) stack.stacked.0) d' (next_is ts after a next) in
      let y_on = chosen fs ps ok y q b y_at (subst (λ k. IsStacked fs k ss) (sym y_rule) stack.stacked.0) e' (next_is ts end a also) in
      let one : p ≡ q = ok.one p q x y b x_at y_at (x_rule ∙ sym y_rule) x_on y_on in
      let it : other ≡ line = some_same (subst (λ k. slice_get G k ≡ Some other) (sym one) there) at in
      let (heads, ends) = unique rest end a d (subst (λ (l : Line). Leads G (l.symbols ++ ss) ts rest end) it e)
      (subst (λ (l : Line). IsStack fs (l.symbols ++ ss)) (sym x_is) (replaced fs ps ok x p x_at x_rule stack)) next also in
      (ap (λ k. k ∷ qs) one ∙ ap (λ l. q ∷ l) heads, ends)

  pub start_stack : IsStack fs start
  start_stack = record { stacked = start_stacked fs ps ok; left_out = tt }

  -- behind the same terminals the productions and what is still to come are the same
  pub one_behind : {us qs rs : List ℕ} {ss ends : List Symbol} → Behind G us qs ss → Behind G us rs ends → (qs ≡ rs) × (ss ≡ ends)
  one_behind at_start at_start = (refl, refl)
  one_behind at_start (behind before t is d) = absurd (push_some before t is)
  one_behind (behind before t is d) at_start = absurd (push_some before t is)
  one_behind {rs = rs} {ends = ends} (behind {ps = qs} {ss} before t is d) (behind first u same e) =
      let fronts = same_front before first t u (sym is ∙ same) in
      let lasts = same_last before first t u (sym is ∙ same) in
      let e' : Leads G start before rs (Terminal t ∷ ends) =
      subst (λ l. Leads G start l rs (Terminal t ∷ ends)) (sym fronts) (subst (λ k. Leads G start first rs (Terminal k ∷ ends)) (sym lasts) e) in
      let both = unique rs (Terminal t ∷ ends) (Some t) d e' start_stack refl refl in
      (both.0, behind_same both.1)
    where
      behind_same : {xs ys : List Symbol} {t : ℕ} → Terminal t ∷ xs ≡ Terminal t ∷ ys → xs ≡ ys
      behind_same e = cc
