-- Of a derivation by rules nothing is left out, and nothing nests too deep.
use Rattle.std.proofs.Common.{◌≡◌, ℕ, ◌+◌, List, [], length, arith}
use Rattle.pj_ll.specs.declared.grammar.Symbol.{Symbol}
use Rattle.pj_ll.specs.Leads.{Behind, Derives}
use Rattle.pj_ll.specs.Outcome.{AreClearBelow, IsLeftOutAt}
use Rattle.pj_xtokens.specs.Tokens.{Lexed}
use Rattle.pj_xgrammar.specs.Terminals.{numbers}
use Rattle.pj_xgrammar.specs.XPath.{greatest_nesting, xpath_grammar}
use Rattle.pj_xmeaning.specs.Parts.{RuleValue}
use Rattle.pj_xmeaning.specs.Reach.{All}
use Rattle.pj_xmeaning.proofs.Derived.{Derived}
use Rattle.pj_xmeaning.proofs.Flattening.{tree_derives}
use Rattle.pj_xmeaning.proofs.Shallow.{tree_not_deep}

-- where in what is derived nothing is left out, and what stands behind the same terminals is one
module _ (not_left_out : (terminals ps : List ℕ) → Derives xpath_grammar terminals ps → (i : ℕ) → IsLeftOutAt xpath_grammar terminals i → ⊥)
    (one_stack : (before ps qs : List ℕ) (ss rs : List Symbol) → Behind xpath_grammar before ps ss → Behind xpath_grammar before qs rs → ss ≡ rs) where
  pub tree_clear : (tokens : List Lexed) (ps : List ℕ) (v : RuleValue) → Derived All 0 [] 0 tokens ps v → AreClearBelow xpath_grammar (numbers tokens) greatest_nesting (length (numbers tokens) + 1)
  tree_clear tokens ps v d = record {
    not_left_out = λ i lt. not_left_out (numbers tokens) ps (tree_derives tokens ps v d) i;
    not_too_deep = λ i lt. tree_not_deep one_stack tokens ps v d i (omega arith);
  }
