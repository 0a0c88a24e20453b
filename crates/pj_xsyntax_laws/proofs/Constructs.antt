-- A construct whose level is below that of steps.
use Rattle.std.proofs.Common.{◌≡◌, ℕ, Bool, true, false, length, arith}
use Rattle.std.specs.Prelude.{nat_le}
use Rattle.std.proofs.lemmas.Bool.{leb-true, leb-false}
use Rattle.pj_xexpressions.specs.Expressions.{Scope}
use Rattle.pj_xexpressions.specs.Trees.{Trees, Construct, Node}
use Rattle.pj_xreadings.specs.Shapes.{level_by, written_by, part_of_tree}
use Rattle.pj_xreadings.specs.Nesting.{nested_of, nested_each, nested_by}
use Rattle.pj_xsyntax_laws.specs.Printed.{printed_of, printed_each, words_by}
use Rattle.pj_xsyntax_laws.proofs.Readings.{ReadsAt, Reads}

both : (level : ℕ) → nat_le 15 level ≡ false → nat_le 16 level ≡ true → ⊥
both level e h = let a = leb-false 15 level e in let b = leb-true 16 level h in omega (arith, a, b)

clash : (level : ℕ) → nat_le 15 level ≡ false → nat_le 15 level ≡ true → ⊥
clash level e h = let a = leb-false 15 level e in let b = leb-true 15 level h in omega (arith, a, b)

pub low_reads : (scope : Scope) (c : Construct) (ts : Trees) → nat_le 15 (level_by c (length (printed_each ts))) ≡ false
    → ((flag : Bool) → ReadsAt flag (level_by c (length (printed_each ts))) (words_by c (printed_each ts) flag) (nested_by c (nested_each ts) flag) scope (written_by c) (Node c ts))
    → Reads scope (Node c ts)
unfolding printed_of nested_of part_of_tree
low_reads scope c ts low r = record {
  bare = r;
  begins = λ h. absurd (clash (level_by c (length (printed_each ts))) low h);
  primary = λ h. absurd (both (level_by c (length (printed_each ts))) low h);
}
