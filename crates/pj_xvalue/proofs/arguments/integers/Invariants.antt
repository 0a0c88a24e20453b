use Rattle.std.proofs.Common.{◌≡◌, drop}
use Rattle.pj_xvalue.specs.Items.{values_of}
use Rattle.pj_xvalue.specs.Arguments.{integers}
use Rattle.pj_xvalue.proofs.Integers.{integers_behind}
use Rattle.pj_xvalue.proofs.arguments.integers.Given as goal

abbrev pub invariant-loop-item : goal.invariant-loop-item
invariant-loop-item l = integers_behind l.numbers.items (integers (values_of (drop l.item-index l.items))) ≡ integers (values_of l.items)
