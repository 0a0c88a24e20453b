-- What is printed is read again, and so is what any text spells.
use Rattle.std.proofs.Common.{◌∙◌, ℕ, ◌≤◌, List, [], false, refl, sym, ap, subst, arith}
use Rattle.std.specs.Prelude.{◌≡◌, None, IsTrue}
use Rattle.std.specs.Str.{all_scalars}
use Rattle.std.proofs.Math.Nat.{zero-add}
use Rattle.std.proofs.lemmas.List.{append-nil}
use Rattle.pj_xtokens.specs.Gaps.{here}
use Rattle.pj_xtokens.specs.Size.{size}
use Rattle.pj_xtokens.specs.Tokens.{Lexed, Tokens}
use Rattle.pj_xtokens.specs.declared.token.End.{End}
use Rattle.pj_xsyntax_laws.specs.Spaced.{placed, spaced}
use Rattle.pj_xsyntax_laws.proofs.Placing.{tokens_from}
use Rattle.pj_xexpressions.specs.Expressions.{Scope}
use Rattle.pj_xexpressions.specs.Trees.{Tree}
use Rattle.pj_xparse.specs.NameFaults.{first_fault, first_fault_from}
use Rattle.pj_xreadings.specs.Operands.{Operand}
use Rattle.pj_xmeaning.specs.Reads.{AreRead}
use Rattle.pj_xparse.specs.WellSpelled.{AreWellSpelled}
use Rattle.pj_xparse.specs.Spells.{Spells}
use Rattle.pj_xreadings.specs.Nesting.{nesting_of_tree}
use Rattle.pj_xreadings.specs.Shapes.{part_of_tree}
use Rattle.pj_xreadings.specs.Spelled.{IsSpelled}
use Rattle.pj_xsyntax_laws.specs.Printed.{printed, printed_of, words_of}
use Rattle.pj_xsyntax_laws.proofs.Climbing.{descend}
use Rattle.pj_xsyntax_laws.proofs.Readings.{operand_of}
use Rattle.pj_xsyntax_laws.proofs.PrintedWords.{tree_spelled}
use Rattle.pj_xsyntax_laws.proofs.Trees.{tree_reads}
use Rattle.pj_xsyntax_laws.proofs.WordKinds.{SpelledAreTold, ToldAreSpelled}

-- what tokens read may stand alone where its names have no fault, nests no deeper than it may, and has a spelling
pub record ReadingsFit : Type 0 where
  pub fit : (tokens : List Lexed) (a : Operand) (variables : List (List ℕ)) → AreRead tokens a → first_fault variables a.names ≡ None → IsTrue ((part_of_tree a.tree).fits (record { given = variables; bound = [] }))
  pub nest : (tokens : List Lexed) (a : Operand) → AreRead tokens a → nesting_of_tree a.tree ≤ 200
  pub spelled : (tokens : List Lexed) (a : Operand) → AreWellSpelled tokens → AreRead tokens a → IsSpelled a.tree
  pub tokens_spelled : (total : ℕ) (text : List ℕ) (tokens : List Lexed) (end : End) → IsTrue (all_scalars text) → Tokens total text tokens end → AreWellSpelled tokens

abbrev whole_scope : List (List ℕ) → Scope
whole_scope variables = record { given = variables; bound = [] }

-- where the scanner follows the rules of tokens
module _ (told : SpelledAreTold) (told_spelled : ToldAreSpelled) where
  -- the printed text spells the expression
  pub printed_is_read : (variables : List (List ℕ)) (t : Tree) → IsTrue ((part_of_tree t).fits (whole_scope variables)) → nesting_of_tree t ≤ 200 → IsSpelled t → Spells variables (printed t) t
  printed_is_read variables t h n i =
      let words = words_of false t in
      let it = (descend (printed_of t).level 0 (omega arith) ((tree_reads t (whole_scope variables) h i).bare false)).reads 0 0 [] (omega (arith, n)) refl in
      record {
        tokens = placed 0 words;
        said = operand_of t (part_of_tree t).written it.names;
        read = tokens_from told (size (spaced words)) 0 words (spaced words) (tree_spelled told_spelled t i false) (here (spaced words) (spaced words) refl) (zero-add (size (spaced words)));
        says = subst (λ tokens. AreRead tokens (operand_of t (part_of_tree t).written it.names)) (append-nil (placed 0 words)) it.reads;
        named = ap (first_fault_from (whole_scope variables)) (sym (append-nil it.names)) ∙ it.clean [];
        means = refl;
      }

  -- what a text spells is printed and read again
  pub spelled_is_printed : ReadingsFit → (variables : List (List ℕ)) (text : List ℕ) (t : Tree) → IsTrue (all_scalars text) → Spells variables text t → Spells variables (printed t) t
  spelled_is_printed law variables text t scalars s =
      subst (λ (u : Tree). Spells variables (printed u) u) (sym s.means)
      (printed_is_read variables s.said.tree (law.fit s.tokens s.said variables s.says s.named) (law.nest s.tokens s.said s.says)
      (law.spelled s.tokens s.said (law.tokens_spelled _ _ s.tokens _ scalars s.read) s.says))
