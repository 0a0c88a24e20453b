use Rattle.std.proofs.Common.{◌≡◌, ◌≤◌, ◌+◌, length}
use Rattle.pj_shape.specs.Words.{is_small}
use Rattle.pj_shape.proofs.Backward.{State}
use Rattle.pj_shape.proofs.nodes.made_nodes.Given as goal

abbrev pub invariant-loop-left : goal.invariant-loop-left
invariant-loop-left l = record {
  within : l.left ≤ length l.derivation;
  len : length l.counts.items ≡ length l.derivation + 1;
  state : State l.shapes (is_small l.text l.tokens) l.derivation l.counts.items l.left l.nodes.items;
}

abbrev pub decreases-loop-left : goal.decreases-loop-left
decreases-loop-left l = l.left
