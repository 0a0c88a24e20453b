use Rattle.std.proofs.Common.{◌≡◌, length}
use Rattle.std.specs.List.{list_any}
use Rattle.pj_tree.specs.Tree.{children_of}
use Rattle.pj_suppress.specs.Annotation.{is_named}
use Rattle.pj_suppress.proofs.Inside.{AreInside}
use Rattle.pj_suppress.proofs.annotation.some_is_named.Given as goal

abbrev pub invariant-loop-child : goal.invariant-loop-child
invariant-loop-child l =
    (list_any (is_named l.tree) l.child-iterator ≡ list_any (is_named l.tree) (children_of l.tree l.fn.n)) × AreInside (length l.tree.nodes) l.child-iterator
