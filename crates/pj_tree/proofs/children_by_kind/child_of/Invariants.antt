use Rattle.std.proofs.Common.{◌≡◌, length}
use Rattle.std.specs.Prelude.{find}
use Rattle.pj_tree.specs.Kinds.{is_kind}
use Rattle.pj_tree.specs.Children.{child_of}
use Rattle.pj_tree.proofs.Inside.{AreInside}
use Rattle.pj_tree.proofs.children_by_kind.child_of.Given as goal

abbrev pub invariant-loop-child : goal.invariant-loop-child
invariant-loop-child l =
    (find (is_kind l.tree l.kind) l.child-iterator ≡ child_of l.tree l.fn.n l.kind) × (AreInside (length l.tree.nodes) l.child-iterator)
