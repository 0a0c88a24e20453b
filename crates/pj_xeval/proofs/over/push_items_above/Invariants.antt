use Rattle.std.proofs.Common.{◌≡◌, ◌++◌, ◌-◌}
use Rattle.pj_xvalue.specs.Items.{values_of}
use Rattle.pj_xeval.specs.Over.{items_above}
use Rattle.pj_xeval.proofs.over.push_items_above.Given as goal

abbrev pub invariant-loop-number : goal.invariant-loop-number
invariant-loop-number l = values_of l.found ++ items_above l.tree l.test l.number (l.to - l.number) ≡ values_of l.fn.found ++ items_above l.tree l.test l.fn.from (l.to - l.fn.from)
