-- What tokens say as far as a run over their terminals goes has productions that lead there, and is one.
use Rattle.std.proofs.Common.{◌≡◌, ℕ, ◌≤◌, List, length, take, Some, slice_get, sym, ◌∙◌, ap}
use Rattle.pj_ll.specs.declared.grammar.Symbol.{Symbol}
use Rattle.pj_ll.specs.declared.parser.End.{End}
use Rattle.pj_ll.specs.declared.parser.End.TheVariants.{Whole, Stops, LeftOut, TooDeep}
use Rattle.pj_ll.specs.Leads.{Behind, Derives}
use Rattle.pj_ll.specs.Outcome.{IsEnd, IsLeftOutAt, IsWhole, LeadBehind, LeadTo}
use Rattle.pj_xtokens.specs.Tokens.{Lexed}
use Rattle.pj_xgrammar.specs.declared.rule.Rule.{Rule}
use Rattle.pj_xgrammar.specs.Notation.{rule_number}
use Rattle.pj_xgrammar.specs.Terminals.{numbers}
use Rattle.pj_xgrammar.specs.XPath.{greatest_nesting, rules, xpath_grammar}
use Rattle.pj_xreadings.specs.Operands.{Operand}
use Rattle.pj_xmeaning.specs.Reads.{AreRead}
use Rattle.pj_xmeaning.specs.SoFar.{SayUpTo}
use Rattle.pj_xmeaning.specs.Values.{said}
use Rattle.pj_xmeaning.proofs.Clear.{tree_clear}
use Rattle.pj_xmeaning.proofs.Counts.{within_tokens, left_out_within}
use Rattle.pj_xmeaning.proofs.FillsLead.{fill_leads}
use Rattle.pj_xmeaning.proofs.Fitting.{actions_fit}
use Rattle.pj_xmeaning.proofs.Flattening.{tree_derives}
use Rattle.pj_xmeaning.proofs.ReadsDerive.{read_derives, said_fills}
use Rattle.pj_xmeaning.proofs.Valuing.{tree_said, fill_said}

-- productions that lead to where a run ends, by which the tokens say this
record Leading (end : End) (tokens : List Lexed) (a : Operand) : Type 0 where
  productions : List ℕ
  leads : LeadTo xpath_grammar (numbers tokens) productions end
  say : said productions tokens ≡ a

-- where each rule stands at its number
module _ (rule_at : (rule : Rule) → slice_get rules (rule_number rule) ≡ Some rule) where
  module _ (tokens : List Lexed) where
    -- all tokens
    whole_leads : (a : Operand) → AreRead tokens a → Leading Whole tokens a
    whole_leads a reads =
        let w = read_derives rule_at tokens reads in
        record {
          productions = w.productions;
          leads = tree_derives tokens w.productions w.value w.tree;
          say = tree_said actions_fit tokens w.productions w.value w.tree ∙ w.says;
        }

    -- those before a place
    first_lead : (i : ℕ) → i ≤ length tokens → (a : Operand) → SayUpTo (Stops i) tokens a → Leading (Stops i) tokens a
    first_lead i within a reads =
        let f = said_fills rule_at reads in
        record {
          productions = f.productions;
          leads = fill_leads tokens i within f.fill f.are;
          say = ap (λ l. said f.productions l) f.are ∙ fill_said actions_fit f.fill ∙ f.says;
        }

    leading : (end : End) → IsEnd xpath_grammar (numbers tokens) greatest_nesting end → (a : Operand) → SayUpTo end tokens a → Leading end tokens a
    leading Whole it a reads = whole_leads a reads
    leading (Stops i) it a reads = first_lead i (within_tokens tokens i it.within) a reads
    leading (LeftOut i) it a reads =
        let l = first_lead i (left_out_within tokens i it) a reads in record { productions = l.productions; leads = l.leads; say = l.say }
    leading (TooDeep i) it a reads =
        let l = first_lead i (within_tokens tokens i it.within) a reads in record { productions = l.productions; leads = l.leads; say = l.say }

  -- what is read before a place has productions that lead behind it
  pub beginning_leads : (tokens : List Lexed) (i : ℕ) (a : Operand) → i ≤ length tokens → SayUpTo (Stops i) tokens a → (productions : List ℕ) × LeadBehind xpath_grammar (take i (numbers tokens)) productions
  beginning_leads tokens i a within reads = let l = first_lead tokens i within a reads in (l.productions, l.leads)

  pub sayings_are_runs : (end : End) (tokens : List Lexed) (a : Operand) → IsEnd xpath_grammar (numbers tokens) greatest_nesting end → SayUpTo end tokens a →
      (productions : List ℕ) × LeadTo xpath_grammar (numbers tokens) productions end
  sayings_are_runs end tokens a it reads = let l = leading tokens end it a reads in (l.productions, l.leads)

  -- where terminals have one leftmost derivation, and one that leads behind them
  module _ (one_derivation : (terminals ps qs : List ℕ) → Derives xpath_grammar terminals ps → Derives xpath_grammar terminals qs → ps ≡ qs)
      (one_beginning : (before ps qs : List ℕ) (ss rs : List Symbol) → Behind xpath_grammar before ps ss → Behind xpath_grammar before qs rs → (ps ≡ qs) × (ss ≡ rs)) where
    -- what leads to where a run ends is one
    one_lead : (end : End) (terminals ps qs : List ℕ) → LeadTo xpath_grammar terminals ps end → LeadTo xpath_grammar terminals qs end → ps ≡ qs
    one_lead Whole terminals ps qs d e = one_derivation terminals ps qs d e
    one_lead (Stops i) terminals ps qs d e = (one_beginning (take i terminals) ps qs d.0 e.0 d.1 e.1).0
    one_lead (LeftOut i) terminals ps qs d e = (one_beginning (take i terminals) ps qs d.0 e.0 d.1 e.1).0
    one_lead (TooDeep i) terminals ps qs d e = (one_beginning (take i terminals) ps qs d.0 e.0 d.1 e.1).0

    pub one_saying : (end : End) (tokens : List Lexed) (a b : Operand) → IsEnd xpath_grammar (numbers tokens) greatest_nesting end → SayUpTo end tokens a → SayUpTo end tokens b → a ≡ b
    one_saying end tokens a b it h k =
        let l = leading tokens end it a h in
        let m = leading tokens end it b k in
        sym l.say ∙ ap (λ ps. said ps tokens) (one_lead end (numbers tokens) l.productions m.productions l.leads m.leads) ∙ m.say

  -- where what stands behind the same terminals is one, and nothing is left out of what is derived
  pub readings_are_whole : ((before ps qs : List ℕ) (ss rs : List Symbol) → Behind xpath_grammar before ps ss → Behind xpath_grammar before qs rs → ss ≡ rs) →
      ((terminals ps : List ℕ) → Derives xpath_grammar terminals ps → (i : ℕ) → IsLeftOutAt xpath_grammar terminals i → ⊥) →
      (tokens : List Lexed) (a : Operand) → AreRead tokens a → IsWhole xpath_grammar (numbers tokens) greatest_nesting
  readings_are_whole one_stack not_left_out tokens a h =
      let w = read_derives rule_at tokens h in
      record {
        sentence = (w.productions, tree_derives tokens w.productions w.value w.tree);
        clear = tree_clear not_left_out one_stack tokens w.productions w.value w.tree;
      }
