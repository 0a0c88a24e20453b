use Rattle.std.proofs.Common.{◌≡◌, take}
use Rattle.pj_xvalue.specs.Items.{values_of}
use Rattle.pj_xeval.specs.Over.{stepped_at_each}
use Rattle.pj_xeval.proofs.over.step_from_each.Given as goal

abbrev pub invariant-loop-item : goal.invariant-loop-item
invariant-loop-item l = values_of l.found ≡ stepped_at_each l.tree l.fn.along l.test (values_of (take l.item-index l.items))
