-- What is still to come can be derived.
use Rattle.std.proofs.Common.{ℕ, zero, suc, ◌<◌, List, [], ◌∷◌, ◌++◌, length, sym, subst, arith}
use Rattle.std.proofs.lemmas.List.{append-nil}
use Rattle.pj_ll.specs.declared.grammar.Symbol.{Symbol}
use Rattle.pj_ll.specs.declared.grammar.Symbol.TheVariants.{Terminal, Rule, LeftOut, Close}
use Rattle.pj_ll.specs.Grammar.{Entry, Grammar, line_of, grammar_of}
use Rattle.pj_ll.specs.Leads.{Leads, stay, take_terminal, close, expand}
use Rattle.pj_ll.specs.Predictive.{RuleFacts, fact_at, AreFollowed, AreBelow, HaveNoLeftOut, IsPredictive}
use Rattle.pj_ll.specs.Parsing.{AreStacked}
use Rattle.pj_ll.specs.Composing.{join, frame}
use Rattle.pj_ll.proofs.Lines.{line_at}

-- the symbols derive some terminals
pub record Finishes (g : Grammar) (ss : List Symbol) : Type 0 where
  pub terminals : List ℕ
  pub productions : List ℕ
  pub leads : Leads g ss terminals productions []

both : {g : Grammar} (s : Symbol) (ss : List Symbol) → Finishes g (s ∷ []) → Finishes g ss → Finishes g (s ∷ ss)
both {g} s ss a b = record {
  terminals = a.terminals ++ b.terminals;
  productions = a.productions ++ b.productions;
  leads = join g b.terminals b.productions [] (frame g ss a.leads) b.leads;
}

taken : {g : Grammar} (t : ℕ) (ss : List Symbol) → Finishes g ss → Finishes g (Terminal t ∷ ss)
taken t ss f = record { terminals = t ∷ f.terminals; productions = f.productions; leads = take_terminal t f.leads }

closed : {g : Grammar} (ss : List Symbol) → Finishes g ss → Finishes g (Close ∷ ss)
closed ss f = record { terminals = f.terminals; productions = f.productions; leads = close f.leads }

module _ (fs : List RuleFacts) (ps : List Entry) (ok : IsPredictive fs ps) where
  abbrev G : Grammar
  G = grammar_of ps

  finish_below : (h n : ℕ) (ss : List Symbol) → ((m : ℕ) → m < length fs → (fact_at fs m).height < h → Finishes G (Rule m ∷ [])) →
      AreBelow fs h ss → AreFollowed fs n ss → Finishes G ss
  finish_below h n [] rule below followed = record { terminals = []; productions = []; leads = stay }
  finish_below h n (Terminal t ∷ ss) rule below followed = taken t ss (finish_below h n ss rule below followed)
  finish_below h n (LeftOut t ∷ ss) rule below followed = absurd below
  finish_below h n (Close ∷ ss) rule below followed = closed ss (finish_below h n ss rule below followed)
  finish_below h n (Rule m ∷ ss) rule below followed =
      both (Rule m) ss (rule m followed.0.known below.0) (finish_below h n ss rule below.1 followed.1)

  finish_rule : (k n : ℕ) → n < length fs → (fact_at fs n).height < k → Finishes G (Rule n ∷ [])
  finish_rule zero n known lt = absurd (omega arith)
  finish_rule (suc k) n known lt =
      let (p, rest) = ok.finished n known in
      let (x, at, rule, below) = rest in
      let f = finish_below (fact_at fs n).height x.rule x.symbols (λ m m_known m_lt. finish_rule k m m_known (omega arith)) below (ok.each p x at).followed in
      record {
        terminals = f.terminals;
        productions = p ∷ f.productions;
        leads = expand n p (line_of x) (line_at ps p x at) rule
            (subst (λ l. Leads G l f.terminals f.productions []) (sym (append-nil x.symbols)) f.leads);
      }

  -- a stack in which nothing is left out can be derived
  pub finish_stack : (ss : List Symbol) → AreStacked fs ss → HaveNoLeftOut ss → Finishes G ss
  finish_stack [] are kept = record { terminals = []; productions = []; leads = stay }
  finish_stack (Terminal t ∷ ss) are kept = taken t ss (finish_stack ss are kept)
  finish_stack (LeftOut t ∷ ss) are kept = absurd kept
  finish_stack (Close ∷ ss) are kept = closed ss (finish_stack ss are kept)
  finish_stack (Rule n ∷ ss) are kept =
      both (Rule n) ss (finish_rule (suc (fact_at fs n).height) n are.0.known (omega arith)) (finish_stack ss are.1 kept)
