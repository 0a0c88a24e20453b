use Rattle.std.proofs.Common.{◌≡◌, ◌++◌, ◌<◌, length, filter}
use Rattle.std.specs.List.{AllByRecursion}
use Rattle.pj_xvalue.specs.Items.{values_of}
use Rattle.pj_xaxes.specs.Axes.{axis_nodes}
use Rattle.pj_xsteps.specs.Steps.{passes, elements}
use Rattle.pj_xsteps.proofs.axis_step.push_elements.Given as goal

abbrev pub invariant-loop-m : goal.invariant-loop-m
invariant-loop-m l = record {
  found : values_of l.items ++ filter (passes l.tree l.test) (elements l.m-iterator) ≡ values_of l.fn.items ++ filter (passes l.tree l.test) (elements (axis_nodes l.tree l.fn.along l.fn.n));
  inside : AllByRecursion (λ m. m.0 < length l.tree.nodes) l.m-iterator;
}
