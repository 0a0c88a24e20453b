use Rattle.std.proofs.Common.{◌≡◌, flat_map, take}
use Rattle.pj_xvalue.specs.Items.{value_of_item}
use Rattle.pj_findings.specs.Denoted.{element_in}
use Rattle.pj_findings.proofs.denoted.elements_in.Given as goal

abbrev pub invariant-loop-item : goal.invariant-loop-item
invariant-loop-item l = l.nodes ≡ flat_map (λ item. element_in (value_of_item item)) (take l.item-index l.items)
