use Rattle.std.proofs.Common.{◌≡◌, map, drop}
use Rattle.pj_xvalue.specs.Items.{value_of_item}
use Rattle.pj_xvalue.specs.Comparison.{first_deciding}
use Rattle.pj_xvalue.proofs.comparison.compare_item.Given as goal

abbrev pub invariant-loop-other : goal.invariant-loop-other
invariant-loop-other l =
    first_deciding l.op (map (λ other. (value_of_item l.item, other)) (map value_of_item (drop l.other-index l.right))) ≡ first_deciding l.op (map (λ other. (value_of_item l.item, other)) (map value_of_item l.right))
