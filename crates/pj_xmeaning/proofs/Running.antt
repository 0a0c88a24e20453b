-- What is made of the productions that derive tokens so far is what the tokens say so far.
use Rattle.std.proofs.Common.{◌≡◌, ℕ, ◌≤◌, List, [], length, drop, take, Some, sym, ap, ◌∙◌, subst}
use Rattle.std.specs.Prelude.{slice_get}
use Rattle.pj_ll.specs.declared.parser.End.{End}
use Rattle.pj_ll.specs.declared.parser.End.TheVariants.{Whole, Stops, LeftOut, TooDeep}
use Rattle.pj_ll.specs.Outcome.{IsEnd, LeadTo, LeadBehind}
use Rattle.pj_xtokens.specs.Tokens.{Lexed}
use Rattle.pj_xgrammar.specs.declared.rule.Rule.{Rule}
use Rattle.pj_xgrammar.specs.declared.rule.Rule.TheVariants as r
use Rattle.pj_xgrammar.specs.Notation.{rule_number}
use Rattle.pj_xgrammar.specs.Terminals.{numbers}
use Rattle.pj_xgrammar.specs.XPath.{greatest_nesting, rules, xpath_grammar}
use Rattle.pj_xmeaning.specs.Reach.{All, Plain, UpTo}
use Rattle.pj_xmeaning.specs.Reads.{Reads}
use Rattle.pj_xmeaning.specs.SoFar.{SayUpTo}
use Rattle.pj_xmeaning.specs.Parts.{operand}
use Rattle.pj_xmeaning.specs.Values.{top, said}
use Rattle.pj_xmeaning.proofs.Fitting.{actions_fit}
use Rattle.pj_xmeaning.proofs.Counts.{left_out_within, within_tokens}
use Rattle.pj_xmeaning.proofs.Beginnings.{leads_fill}
use Rattle.pj_xmeaning.proofs.DerivedReads.{beginning_reads, whole_reads}
use Rattle.pj_xmeaning.proofs.Leading.{leads_tree}
use Rattle.pj_xmeaning.proofs.Valuing.{fill_said, tree_said}

-- where each rule stands at its number
module _ (rule_at : (rule : Rule) → slice_get rules (rule_number rule) ≡ Some rule) where
  -- the tokens before a place, which the productions lead behind
  pub beginning_said : (tokens : List Lexed) (i : ℕ) (productions : List ℕ) → i ≤ length tokens → LeadBehind xpath_grammar (take i (numbers tokens)) productions →
      Reads (UpTo Plain (drop i tokens)) r.Expr 0 tokens (drop i tokens) (said productions tokens)
  beginning_said tokens i productions within leads =
      let f = leads_fill tokens i productions within leads in
      let left = drop i tokens in
      subst (λ a. Reads (UpTo Plain left) r.Expr 0 tokens left a) (sym (ap (said productions) f.are ∙ fill_said actions_fit f.fill))
      (subst (λ l. Reads (UpTo Plain left) r.Expr 0 l left (operand (top f.values))) (sym f.are) (beginning_reads rule_at f.fill))

  pub made_said : (end : End) (tokens : List Lexed) (productions : List ℕ) → IsEnd xpath_grammar (numbers tokens) greatest_nesting end →
      LeadTo xpath_grammar (numbers tokens) productions end → SayUpTo end tokens (said productions tokens)
  made_said Whole tokens productions it leads =
      let (v, tree) = leads_tree tokens productions leads it.clear in
      subst (λ a. Reads All r.Expr 0 tokens [] a) (sym (tree_said actions_fit tokens productions v tree)) (whole_reads rule_at tree)
  made_said (Stops i) tokens productions it leads = beginning_said tokens i productions (within_tokens tokens i it.within) leads
  made_said (LeftOut i) tokens productions it leads = beginning_said tokens i productions (left_out_within tokens i it) leads
  made_said (TooDeep i) tokens productions it leads = beginning_said tokens i productions (within_tokens tokens i it.within) leads
