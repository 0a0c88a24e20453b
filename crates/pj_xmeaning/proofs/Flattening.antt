-- From a derivation by rules to a leftmost one.
use Rattle.std.proofs.Common.{ℕ, List, [], ◌∷◌, ◌++◌, sym, subst, append_assoc}
use Rattle.std.proofs.lemmas.List.{append-nil}
use Rattle.pj_ll.specs.declared.grammar.Symbol.{Symbol}
use Rattle.pj_ll.specs.declared.grammar.Symbol.TheVariants.{Terminal, Rule}
use Rattle.pj_ll.specs.Leads as leads
use Rattle.pj_ll.specs.Leads.{Leads, Derives, take_terminal, expand, start}
use Rattle.pj_xtokens.specs.Tokens.{Lexed}
use Rattle.pj_xgrammar.specs.Terminals.{numbers}
use Rattle.pj_xgrammar.specs.XPath.{xpath_grammar}
use Rattle.pj_xmeaning.specs.Parts.{RuleValue}
use Rattle.pj_xmeaning.specs.Reach.{All}
use Rattle.pj_xmeaning.proofs.Derived.{Derived, by, Fill, none, token, rule, left_out, close, cut}
use Rattle.pj_xmeaning.proofs.Splitting.{behind_is}

-- the symbols derive the tokens up to the end by these productions
abbrev Lead : List Symbol → List Lexed → List ℕ → Type 0
Lead ss tokens ps = Leads xpath_grammar ss (numbers tokens) ps []

mutual
  -- a rule leads as it derives, where what stands behind it leads on to the end
  rule_leads : {around n : ℕ} {behind ts : List Lexed} {ps : List ℕ} {v : RuleValue} (rest : List Symbol) (more : List ℕ) →
      Derived All around behind n ts ps v → Lead rest behind more → Lead (Rule n ∷ rest) (ts ++ behind) (ps ++ more)
  rule_leads {n = n} {behind} {ts} rest more (by p line before at n_is f ps_are v_is) on =
      subst (λ l. Lead (Rule n ∷ rest) (ts ++ behind) (l ++ more)) (sym ps_are) (expand n p line at n_is (fill_leads rest more f on))

  fill_leads : {around : ℕ} {behind ts : List Lexed} {ss : List Symbol} {ps : List ℕ} {vs : List RuleValue} (rest : List Symbol) (more : List ℕ) →
      Fill All around behind ss ts ps vs → Lead rest behind more → Lead (ss ++ rest) (ts ++ behind) (ps ++ more)
  fill_leads rest more none on = on
  fill_leads rest more (token {behind = behind} {ts} {ss} {ps} x t read few f) on =
      subst (λ k. Leads xpath_grammar (Terminal t ∷ (ss ++ rest)) (k ∷ numbers (ts ++ behind)) (ps ++ more) []) (sym read) (take_terminal t (fill_leads rest more f on))
  fill_leads rest more (rule {n = n} {behind} {ts} {us} {all} {ss} {ps} {qs} d f ts_are ps_are) on =
      let here : Lead (Rule n ∷ (ss ++ rest)) (ts ++ (us ++ behind)) (ps ++ (qs ++ more)) = rule_leads (ss ++ rest) (qs ++ more) d (fill_leads rest more f on) in
      subst (λ l. Lead (Rule n ∷ (ss ++ rest)) (all ++ behind) (l ++ more)) (sym ps_are)
      (subst (λ l. Lead (Rule n ∷ (ss ++ rest)) (all ++ behind) l) (sym (append_assoc ps qs more))
      (subst (λ l. Lead (Rule n ∷ (ss ++ rest)) l (ps ++ (qs ++ more))) (sym (behind_is behind all ts us ts_are)) here))
  fill_leads rest more (left_out x t read is) on = absurd is
  fill_leads rest more (close f) on = leads.close (fill_leads rest more f on)
  fill_leads rest more (cut c) on = absurd c

pub tree_derives : (tokens : List Lexed) (ps : List ℕ) (v : RuleValue) → Derived All 0 [] 0 tokens ps v → Derives xpath_grammar (numbers tokens) ps
tree_derives tokens ps v d =
    subst (λ l. Lead start tokens l) (append-nil ps)
    (subst (λ l. Lead start l (ps ++ [])) (append-nil tokens) (rule_leads [] [] d leads.stay))
