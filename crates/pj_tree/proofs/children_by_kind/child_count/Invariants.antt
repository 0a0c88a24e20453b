use Rattle.std.proofs.Common.{◌≡◌, ◌+◌, ◌≤◌, length}
use Rattle.pj_tree.specs.Tree.{children_of}
use Rattle.pj_tree.proofs.children_by_kind.child_count.Given as goal

abbrev pub invariant-loop-child : goal.invariant-loop-child
invariant-loop-child l = (l.count + length l.child-iterator ≡ length (children_of l.tree l.fn.n)) × (length (children_of l.tree l.fn.n) ≤ 2000000)
