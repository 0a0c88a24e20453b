-- Of a tree and its text the level is the same, and the nesting that is said of the tree is no more than that of the text.
use Rattle.std.proofs.Common.{◌≡◌, ap, ◌≤◌, Bool}
use Rattle.pj_xexpressions.specs.Trees.{Tree, Trees, Node, NoMore, More}
use Rattle.pj_xreadings.specs.Shapes.{level_by, part_of_tree, parts_of_trees}
use Rattle.pj_xreadings.specs.Nesting.{nested_of, nested_each}
use Rattle.pj_xreadings.proofs.Within.{IsWithin, AreWithin, as_many_within, descendants_free, nesting_within}

mutual
  unfolding part_of_tree parts_of_trees nested_of nested_each

  pub tree_within : (t : Tree) → IsWithin (part_of_tree t) (nested_of t)
  tree_within (Node construct parts) = record {
    level = ap (level_by construct) (as_many_within (parts_of_trees parts) (nested_each parts) (trees_within parts));
    free = descendants_free construct (parts_of_trees parts) (nested_each parts) (trees_within parts);
    nesting = nesting_within construct (parts_of_trees parts) (nested_each parts) (trees_within parts);
  }

  pub trees_within : (ts : Trees) → AreWithin (parts_of_trees ts) (nested_each ts)
  trees_within NoMore = tt
  trees_within (More first rest) = (tree_within first, trees_within rest)

-- the level of a tree is that of its text
pub nested_level : (t : Tree) → (nested_of t).level ≡ (part_of_tree t).level
nested_level t = (tree_within t).level

-- whatever stands behind the text
pub nesting_least : (t : Tree) (behind : Bool) → (part_of_tree t).nesting ≤ (nested_of t).nesting behind
nesting_least t behind = (tree_within t).nesting behind
