-- An operand is read as one of the least level that may stand there, in parentheses or without.
use Rattle.std.proofs.Common.{◌≡◌, ℕ, ◌+◌, ◌≤◌, List, [], Bool, true, false, cond, refl, sym, subst, arith}
use Rattle.std.specs.Prelude.{nat_lt}
use Rattle.std.proofs.lemmas.Bool.{ltb-true, ltb-false, lt-ltb, le-leb}
use Rattle.pj_xtokens.specs.Tokens.{Lexed}
use Rattle.pj_xgrammar.specs.declared.rule.Rule.TheVariants as r
use Rattle.pj_xgrammar.specs.declared.terminal.Behind.TheVariants as b
use Rattle.pj_xgrammar.specs.Terminals.{first_behind}
use Rattle.pj_xsyntax_laws.specs.Spaced.{Word}
use Rattle.pj_xexpressions.specs.Expressions.{Scope, Written}
use Rattle.pj_xexpressions.specs.Trees.{Tree}
use Rattle.pj_xmeaning.specs.Reach.{All}
use Rattle.pj_xmeaning.specs.Reads as relation
use Rattle.pj_xreadings.specs.Shapes.{part_of_tree}
use Rattle.pj_xreadings.specs.Nesting.{nested_of, operand_before}
use Rattle.pj_xsyntax_laws.specs.Printed.{enclosed, operand, printed_of, words_of}
use Rattle.pj_xsyntax_laws.proofs.Follows.{follows-phrase}
use Rattle.pj_xsyntax_laws.proofs.Levels.{nested-level, written-low}
use Rattle.pj_xsyntax_laws.proofs.Climbing.{descend}
use Rattle.pj_xsyntax_laws.proofs.Enclosing.{enclosed_primary}
use Rattle.pj_xsyntax_laws.proofs.Readings.{ReadsAt, Primary, Listing, Reads, no_names}
use Rattle.pj_xsyntax_laws.proofs.WholeReadings.{reading}

pub no_predicates : {depth : ℕ} {xs : List Lexed} {scope : Scope} → Listing (relation.Reads All r.PredicateList) depth xs xs scope []
no_predicates = record { operands = []; reads = reading relation.no_predicate; each = no_names }

-- a primary expression with no predicates is a step
pub bare_primary : {ws : List Word} {bound : ℕ} {scope : Scope} {written : Written} {t : Tree} (flag : Bool) → Primary ws bound scope written t → ReadsAt flag 15 ws bound scope written t
bare_primary flag it = record { reads = λ depth from ys h quiet. it.reads depth from ys ys [] h (follows-phrase flag (first_behind b.End ys) quiet) no_predicates }

module _ (scope : Scope) (t : Tree) (it : Reads scope t) where
  -- in parentheses
  in_parentheses : nat_lt (printed_of t).level 16 ≡ true → Primary (enclosed (words_of false t)) (1 + (nested_of t).nesting false) scope (part_of_tree t).written t
  in_parentheses low =
      subst (λ w. Primary (enclosed (words_of false t)) (1 + (nested_of t).nesting false) scope w t) (sym (written-low t low))
      (enclosed_primary (descend (printed_of t).level 0 (omega arith) (it.bare false)))

  below_16 : (least : ℕ) → least ≤ 16 → nat_lt (printed_of t).level least ≡ true → nat_lt (printed_of t).level 16 ≡ true
  below_16 least h e =
      let low = ltb-true (printed_of t).level least e in
      lt-ltb (printed_of t).level 16 (omega (arith, h, low))

  operand_case : (flag : Bool) (least : ℕ) → least ≤ 15 → (low : Bool) → nat_lt (printed_of t).level least ≡ low
      → ReadsAt flag least (cond low (enclosed (words_of false t)) (words_of flag t)) (cond low (1 + (nested_of t).nesting false) ((nested_of t).nesting flag)) scope (part_of_tree t).written t
  operand_case flag least h true e = descend 15 least h (bare_primary flag (in_parentheses (below_16 least (omega (arith, h)) e)))
  operand_case flag least h false e = descend (printed_of t).level least (ltb-false (printed_of t).level least e) (it.bare flag)

  pub operand_reads : (flag : Bool) (least : ℕ) → least ≤ 15 → ReadsAt flag least (operand flag least (printed_of t)) (operand_before flag least (nested_of t)) scope (part_of_tree t).written t
  operand_reads flag least h =
      subst (λ level. ReadsAt flag least (operand flag least (printed_of t)) (cond (nat_lt level least) (1 + (nested_of t).nesting false) ((nested_of t).nesting flag)) scope (part_of_tree t).written t) (nested-level t)
      (operand_case flag least h (nat_lt (printed_of t).level least) refl)

  primary_case : (low : Bool) → nat_lt (printed_of t).level 16 ≡ low
      → Primary (cond low (enclosed (words_of false t)) (words_of false t)) (cond low (1 + (nested_of t).nesting false) ((nested_of t).nesting false)) scope (part_of_tree t).written t
  primary_case true e = in_parentheses e
  primary_case false e = it.primary (le-leb 16 (printed_of t).level (ltb-false (printed_of t).level 16 e))

  pub primary_reads : Primary (operand false 16 (printed_of t)) (operand_before false 16 (nested_of t)) scope (part_of_tree t).written t
  primary_reads =
      subst (λ level. Primary (operand false 16 (printed_of t)) (cond (nat_lt level 16) (1 + (nested_of t).nesting false) ((nested_of t).nesting false)) scope (part_of_tree t).written t) (nested-level t)
      (primary_case (nat_lt (printed_of t).level 16) refl)
