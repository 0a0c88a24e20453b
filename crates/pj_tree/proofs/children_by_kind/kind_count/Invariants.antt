use Rattle.std.proofs.Common.{◌≡◌, ◌+◌, ◌≤◌, length}
use Rattle.std.specs.Prelude.{count_by}
use Rattle.pj_tree.specs.Kinds.{is_kind}
use Rattle.pj_tree.specs.Children.{kind_count}
use Rattle.pj_tree.proofs.Inside.{AreInside}
use Rattle.pj_tree.proofs.children_by_kind.kind_count.Given as goal

abbrev pub invariant-loop-child : goal.invariant-loop-child
invariant-loop-child l = record {
  counted : l.count + count_by (is_kind l.tree l.kind) l.child-iterator ≡ kind_count l.tree l.fn.n l.kind;
  few : l.count + length l.child-iterator ≤ 2000000;
  inside : AreInside (length l.tree.nodes) l.child-iterator;
}
