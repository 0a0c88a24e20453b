use Rattle.std.proofs.Common.{◌≡◌, length}
use Rattle.std.specs.List.{list_any}
use Rattle.pj_tree.specs.Tree.{children_of}
use Rattle.pj_suppress.specs.Annotation.{annotation_names}
use Rattle.pj_suppress.proofs.Inside.{AreInside}
use Rattle.pj_suppress.proofs.annotation.some_annotation_names.Given as goal

abbrev pub invariant-loop-child : goal.invariant-loop-child
invariant-loop-child g l =
    let names = annotation_names l.tree (g.A.Attributes.attribute_of l.facts) l.rule in
    (list_any names l.child-iterator ≡ list_any names (children_of l.tree l.fn.n)) × AreInside (length l.tree.nodes) l.child-iterator
