-- The productions of a run are one list.
use Rattle.std.proofs.Common.{◌≡◌, ℕ, List, take, subst}
use Rattle.pj_ll.specs.declared.parser.End.{End}
use Rattle.pj_ll.specs.declared.parser.End.TheVariants.{Whole, Stops, LeftOut, TooDeep}
use Rattle.pj_ll.specs.declared.grammar.Symbol.{Symbol}
use Rattle.pj_ll.specs.Leads.{Behind, Derives}
use Rattle.pj_ll.specs.Outcome as ll
use Rattle.pj_xtokens.specs.Tokens.{Lexed}
use Rattle.pj_xgrammar.specs.Terminals.{numbers}
use Rattle.pj_xgrammar.specs.XPath.{xpath_grammar}
use Rattle.pj_xderive.specs.Expressions.{IsRun}

-- a run over the numbers of the tokens
pub run_is : (tokens : List Lexed) (terminals ps : List ℕ) (end : End) → terminals ≡ numbers tokens →
    ll.IsEnd xpath_grammar terminals 200 end → ll.LeadTo xpath_grammar terminals ps end → IsRun tokens ps
run_is tokens terminals ps end is ends leads =
    record {
      end = end;
      ends = subst (λ l. ll.IsEnd xpath_grammar l 200 end) is ends;
      leads = subst (λ l. ll.LeadTo xpath_grammar l ps end) is leads;
    }

-- where terminals have one derivation, a beginning one list of productions that lead behind it, and a run one end
module _ (derives_one : (terminals ps qs : List ℕ) → Derives xpath_grammar terminals ps → Derives xpath_grammar terminals qs → ps ≡ qs)
    (behind_one : (before ps qs : List ℕ) (ss rs : List Symbol) → Behind xpath_grammar before ps ss → Behind xpath_grammar before qs rs → ps ≡ qs)
    (one_end : (terminals : List ℕ) (a b : End) → ll.IsEnd xpath_grammar terminals 200 a → ll.IsEnd xpath_grammar terminals 200 b → a ≡ b) where
  one_lead : (terminals ps qs : List ℕ) (end : End) → ll.LeadTo xpath_grammar terminals ps end → ll.LeadTo xpath_grammar terminals qs end → ps ≡ qs
  one_lead terminals ps qs Whole d e = derives_one terminals ps qs d e
  one_lead terminals ps qs (Stops i) (ss, d) (rs, e) = behind_one (take i terminals) ps qs ss rs d e
  one_lead terminals ps qs (LeftOut i) (ss, d) (rs, e) = behind_one (take i terminals) ps qs ss rs d e
  one_lead terminals ps qs (TooDeep i) (ss, d) (rs, e) = behind_one (take i terminals) ps qs ss rs d e

  pub one_run : (tokens : List Lexed) (ps qs : List ℕ) → IsRun tokens ps → IsRun tokens qs → ps ≡ qs
  one_run tokens ps qs a b =
      let same : b.end ≡ a.end = one_end (numbers tokens) b.end a.end b.ends a.ends in
      one_lead (numbers tokens) ps qs a.end a.leads (subst (ll.LeadTo xpath_grammar (numbers tokens) qs) same b.leads)
