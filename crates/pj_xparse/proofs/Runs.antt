-- Runs over the terminals of tokens, and derivations of the tokens.
use Rattle.std.proofs.Common.{◌≡◌, ℕ, suc, ◌+◌, List, [], ◌∷◌, length, refl, sym, ap, subst}
use Rattle.pj_ll.specs.declared.parser.End.TheVariants.{Whole}
use Rattle.pj_ll.specs.Outcome.{IsEnd}
use Rattle.pj_xtokens.specs.Tokens.{Lexed}
use Rattle.pj_xgrammar.specs.declared.terminal.Behind.{Behind}
use Rattle.pj_xgrammar.specs.declared.terminal.Behind.TheVariants as b
use Rattle.pj_xgrammar.specs.Terminals.{numbers, numbers_before}
use Rattle.pj_xgrammar.specs.XPath.{greatest_nesting, xpath_grammar}
use Rattle.pj_xderive.specs.Expressions.{AreClear, AreDerived}

-- each token has a terminal
pub length_numbers : (end : Behind) (xs : List Lexed) → length (numbers_before end xs) ≡ length xs
length_numbers end [] = refl
length_numbers end (x ∷ xs) = ap suc (length_numbers end xs)

module _ (tokens : List Lexed) where
  -- the run over tokens that are derived, and nest no deeper than they may, is whole
  pub whole_run : (productions : List ℕ) → AreDerived tokens productions → AreClear tokens (length tokens + 1) → IsEnd xpath_grammar (numbers tokens) greatest_nesting Whole
  whole_run productions derived clear = record {
    sentence = (productions, derived);
    clear = subst (λ n. AreClear tokens (n + 1)) (sym (length_numbers b.End tokens)) clear;
  }

  -- the tokens of a whole run are derived, and nest no deeper than they may
  pub whole_derivation : IsEnd xpath_grammar (numbers tokens) greatest_nesting Whole → (productions : List ℕ) × AreDerived tokens productions × AreClear tokens (length tokens + 1)
  whole_derivation it = (it.sentence.0, it.sentence.1, subst (λ n. AreClear tokens (n + 1)) (length_numbers b.End tokens) it.clear)
