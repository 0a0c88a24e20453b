-- The level of a tree is the same for its words, its nesting and its part.
use Rattle.std.proofs.Common.{◌≡◌, ℕ, suc, true, length, refl, ap}
use Rattle.std.specs.Prelude.{nat_lt}
use Rattle.std.proofs.lemmas.Bool.{false≢true}
use Rattle.pj_xexpressions.specs.Expressions.{Other}
use Rattle.pj_xexpressions.specs.Trees.{Tree, Trees, Construct, Node, NoMore, More}
use Rattle.pj_xexpressions.specs.Trees as tree
use Rattle.pj_xreadings.specs.Shapes.{level_by, written_by, part_of_tree, parts_of_trees}
use Rattle.pj_xreadings.specs.Nesting.{nested_of, nested_each}
use Rattle.pj_xsyntax_laws.specs.Printed.{printed_of, printed_each}

pub printed-length : (ts : Trees) → length (printed_each ts) ≡ length (nested_each ts)
unfolding printed_of nested_of
printed-length NoMore = refl
printed-length (More t ts) = ap suc (printed-length ts)

pub parts-length : (ts : Trees) → length (printed_each ts) ≡ length (parts_of_trees ts)
unfolding printed_of part_of_tree
parts-length NoMore = refl
parts-length (More t ts) = ap suc (parts-length ts)

pub nested-level : (t : Tree) → (printed_of t).level ≡ (nested_of t).level
unfolding printed_of nested_of
nested-level (Node c ts) = ap (level_by c) (printed-length ts)

low_other : (c : Construct) (n : ℕ) → nat_lt (level_by c n) 16 ≡ true → written_by c ≡ Other
low_other (tree.String text) n h = absurd (false≢true h)
low_other (tree.Integer value) n h = absurd (false≢true h)
low_other (tree.Variable name) n h = absurd (false≢true h)
low_other _ n h = refl

-- what is written as a literal or a variable is a primary expression
pub written-low : (t : Tree) → nat_lt (printed_of t).level 16 ≡ true → (part_of_tree t).written ≡ Other
unfolding printed_of part_of_tree
written-low (Node c ts) h = low_other c (length (printed_each ts)) h
