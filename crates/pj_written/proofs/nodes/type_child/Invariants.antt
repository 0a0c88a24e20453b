use Rattle.std.proofs.Common.{◌≡◌, length}
use Rattle.std.specs.Prelude.{find}
use Rattle.pj_tree.proofs.Inside.{AreInside}
use Rattle.pj_written.specs.Words.{type_child, writes_type}
use Rattle.pj_written.proofs.nodes.type_child.Given as goal

abbrev pub invariant-loop-child : goal.invariant-loop-child
invariant-loop-child l =
    (find (writes_type l.tree) l.child-iterator ≡ type_child l.tree l.fn.n) × (AreInside (length l.tree.nodes) l.child-iterator)
