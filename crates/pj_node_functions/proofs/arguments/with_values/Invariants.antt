use Rattle.std.proofs.Common.{◌≡◌, take}
use Rattle.pj_xvalue.specs.Items.{values_of}
use Rattle.pj_xsteps.specs.Operands.{with_values}
use Rattle.pj_node_functions.specs.Arguments.{around_argument}
use Rattle.pj_node_functions.proofs.arguments.with_values.Given as goal

abbrev pub invariant-loop-item : goal.invariant-loop-item
invariant-loop-item g l =
    values_of l.values ≡ with_values (around_argument (g.A.Attributes.attribute_of l.facts) (g.A.Attributes.names_of l.facts)) (values_of (take l.item-index l.items))
