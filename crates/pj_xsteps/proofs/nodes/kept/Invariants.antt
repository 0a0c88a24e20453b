use Rattle.std.proofs.Common.{◌≡◌, filter, take}
use Rattle.pj_xvalue.specs.Items.{values_of}
use Rattle.pj_xaxes.specs.Order.{has_item}
use Rattle.pj_xsteps.specs.Sets.{stays}
use Rattle.pj_xsteps.proofs.nodes.kept.Given as goal

abbrev pub invariant-loop-item : goal.invariant-loop-item
invariant-loop-item l = values_of l.found ≡ filter (λ item. stays l.operator (has_item (values_of l.others) item)) (values_of (take l.item-index l.items))
