-- Where too much is open, and where a construct is left out, by leftmost derivations and by what is read.
use Rattle.std.proofs.Common.{◌≡◌, ℕ, zero, suc, ◌≤◌, List, [], ◌∷◌, ◌++◌, length, drop, Some, slice_get, refl, sym, ◌∙◌, ap, subst, arith, length-append, length-drop}
use Rattle.pj_ll.specs.declared.grammar.Symbol.{Symbol}
use Rattle.pj_ll.specs.Grammar.{closes}
use Rattle.pj_ll.specs.Leads.{Behind, at_start, behind, IsDeeper}
use Rattle.pj_ll.specs.Outcome.{IsLeftOutAt, IsTooDeepAt}
use Rattle.pj_xtokens.specs.Tokens.{Lexed}
use Rattle.pj_xgrammar.specs.declared.rule.Rule.{Rule}
use Rattle.pj_xgrammar.specs.declared.rule.Rule.TheVariants as r
use Rattle.pj_xgrammar.specs.Notation.{rule_number}
use Rattle.pj_xgrammar.specs.Terminals.{numbers}
use Rattle.pj_xgrammar.specs.XPath.{greatest_nesting, rules, xpath_grammar}
use Rattle.pj_xmeaning.specs.Begun.{BeginsLeftOut, NestsTooDeep, SayTo}
use Rattle.pj_xmeaning.specs.Parts.{operand}
use Rattle.pj_xmeaning.specs.Reach.{Ending, UpTo}
use Rattle.pj_xmeaning.specs.Reads.{Reads}
use Rattle.pj_xmeaning.specs.Values.{top}
use Rattle.pj_xmeaning.proofs.Beginnings.{Filled, deep_fill, left_out_fill}
use Rattle.pj_xmeaning.proofs.Counts.{token_within}
use Rattle.pj_xmeaning.proofs.DerivedReads.{beginning_reads}
use Rattle.pj_xmeaning.proofs.FillsLead.{fill_deep, fill_left_out}
use Rattle.pj_xmeaning.proofs.ReadsDerive.{said_fills}

-- ---- before the first token nothing is open

open_behind : (ks ps : List ℕ) (ss : List Symbol) → ks ≡ [] → Behind xpath_grammar ks ps ss → closes ss ≤ 200
open_behind ks ps ss none at_start = omega arith
open_behind ks ps ss none (behind before t are d) =
    let same = ap length (sym none ∙ are) in
    let sum = length-append before (t ∷ []) in
    absurd (omega arith)

nothing_open : IsDeeper xpath_grammar [] 200 → ⊥
nothing_open (ps, (ss, way, deep)) = let few = open_behind [] ps ss refl way in omega arith

not_deep : (tokens : List Lexed) (i : ℕ) → IsTooDeepAt xpath_grammar (numbers tokens) greatest_nesting i → tokens ≡ drop i tokens → ⊥
not_deep tokens zero deep e = nothing_open deep
not_deep [] (suc i) deep e = nothing_open deep
not_deep (x ∷ xs) (suc i) deep e =
    let rest = length-drop i xs in
    let same = ap length e in
    absurd (omega arith)

-- where each rule stands at its number
module _ (rule_at : (rule : Rule) → slice_get rules (rule_number rule) ≡ Some rule) (tokens : List Lexed) where
  filled_reads : {ending : Ending} (i : ℕ) {productions : List ℕ} (f : Filled ending tokens (drop i tokens) productions) → SayTo ending tokens i (operand (top f.values))
  filled_reads {ending} i f =
      let left = drop i tokens in
      subst (λ l. Reads (UpTo ending left) r.Expr 0 l left (operand (top f.values))) (sym f.are) (beginning_reads rule_at f.fill)

  pub deep_is_read : (i : ℕ) → i ≤ length tokens → IsTooDeepAt xpath_grammar (numbers tokens) greatest_nesting i → NestsTooDeep tokens i
  deep_is_read i within deep =
      let (ps, f) = deep_fill tokens i within deep in
      (not_deep tokens i deep, (operand (top f.values), filled_reads i f))

  pub read_is_deep : (i : ℕ) → i ≤ length tokens → NestsTooDeep tokens i → IsTooDeepAt xpath_grammar (numbers tokens) greatest_nesting i
  read_is_deep i within (apart, (a, reads)) =
      let f = said_fills rule_at reads in
      fill_deep tokens i within f.fill f.are (λ none. apart (f.are ∙ ap (λ l. l ++ drop i tokens) none))

  pub left_out_is_read : (i : ℕ) → IsLeftOutAt xpath_grammar (numbers tokens) i → BeginsLeftOut tokens i
  left_out_is_read i out =
      let (ps, f) = left_out_fill tokens i out in
      (token_within tokens i out.0 out.1, (operand (top f.values), filled_reads (suc i) f))

  pub read_is_left_out : (i : ℕ) → BeginsLeftOut tokens i → IsLeftOutAt xpath_grammar (numbers tokens) i
  read_is_left_out i (within, (a, reads)) =
      let f = said_fills rule_at reads in
      fill_left_out tokens i within f.fill f.are
