use Rattle.std.proofs.Common.{◌≡◌, ◌<◌, length}
use Rattle.pj_suppress.specs.Annotation.{by_annotation}
use Rattle.pj_suppress.proofs.annotation.by_annotation.Given as goal

abbrev pub invariant-loop-at : goal.invariant-loop-at
invariant-loop-at g l = record {
  inside : l.at.0 < length l.tree.nodes;
  rest : by_annotation l.tree (g.A.Attributes.attribute_of l.facts) l.rule l.at ≡ by_annotation l.tree (g.A.Attributes.attribute_of l.facts) l.rule l.fn.n;
}

abbrev pub decreases-loop-at : goal.decreases-loop-at
decreases-loop-at g l = l.at.0
