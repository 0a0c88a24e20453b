use Rattle.std.proofs.Common.{take}
use Rattle.pj_xexpressions.specs.declared.axis.Axis.TheVariants.{DescendantOrSelf}
use Rattle.pj_xexpressions.specs.declared.expr.NodeTest.TheVariants.{AnyNode}
use Rattle.pj_xvalue.specs.Items.{values_of}
use Rattle.pj_xeval.specs.Over.{AreParents, stepped_at_each}
use Rattle.pj_xeval.proofs.over.parents_below.Given as goal

abbrev pub invariant-loop-item : goal.invariant-loop-item
invariant-loop-item l = AreParents l.tree l.test (stepped_at_each l.tree DescendantOrSelf AnyNode (values_of (take l.item-index l.items))) (values_of l.found)
