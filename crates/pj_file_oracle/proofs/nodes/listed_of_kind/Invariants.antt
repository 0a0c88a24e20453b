use Rattle.std.proofs.Common.{◌≡◌, ◌++◌, filter, length}
use Rattle.pj_tree.specs.Kinds.{is_kind}
use Rattle.pj_tree.proofs.Inside.{AreInside}
use Rattle.pj_tree.specs.Tree.{children_of}
use Rattle.pj_file_oracle.proofs.nodes.listed_of_kind.Given as goal

abbrev pub invariant-loop-child : goal.invariant-loop-child
invariant-loop-child l = record {
  value : l.nodes ++ filter (is_kind l.tree l.kind) l.child-iterator ≡ filter (is_kind l.fn.tree l.fn.kind) (children_of l.fn.tree l.fn.n);
  inside : AreInside (length l.tree.nodes) l.child-iterator;
}
