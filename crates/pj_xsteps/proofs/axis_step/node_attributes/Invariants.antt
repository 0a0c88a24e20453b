use Rattle.std.proofs.Common.{◌≡◌, ◌++◌, drop}
use Rattle.std.specs.List.{enumerate_from}
use Rattle.pj_xvalue.specs.Items.{values_of}
use Rattle.pj_xsteps.specs.Steps.{named_attributes}
use Rattle.pj_xsteps.proofs.axis_step.node_attributes.Given as goal

abbrev pub invariant-loop-i : goal.invariant-loop-i
invariant-loop-i g l =
    let value_of = g.A.Attributes.attribute_of l.setting.facts.now l.n in
    let names = g.A.Attributes.names_of l.setting.facts.now l.n in
    values_of l.items ++ named_attributes value_of l.test l.n (enumerate_from l.i (drop l.i names)) ≡ named_attributes value_of l.test l.n (enumerate_from 0 names)
