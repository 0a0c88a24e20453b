use Rattle.std.proofs.Common.{◌≡◌, map, drop}
use Rattle.pj_xvalue.specs.Items.{value_of_item}
use Rattle.pj_xvalue.specs.Comparison.{general_comparison}
use Rattle.pj_xvalue.proofs.comparison.compare.Given as goal

abbrev pub invariant-loop-item : goal.invariant-loop-item
invariant-loop-item l =
    general_comparison l.op (map value_of_item (drop l.item-index l.item-items)) (map value_of_item l.right) ≡ general_comparison l.op (map value_of_item l.left) (map value_of_item l.right)
