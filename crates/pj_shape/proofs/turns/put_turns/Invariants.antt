use Rattle.std.proofs.Common.{◌≤◌, ◌-◌}
use Rattle.pj_shape.specs.Body.{IsBody}
use Rattle.pj_shape.specs.Words.{is_small}
use Rattle.pj_shape.proofs.Turning.{Turning}
use Rattle.pj_shape.proofs.turns.put_turns.Given as goal

abbrev pub invariant-loop-at : goal.invariant-loop-at
invariant-loop-at l = record {
  from : l.body.first ≤ l.at;
  each : (b : IsBody l.shapes (is_small l.text l.tokens) l.derivation l.counts l.body.first l.body.end l.fn.nodes.items) → Turning l.shapes (is_small l.text l.tokens) l.body.start l.derivation b.below b.after l.at l.body.end l.nodes.items;
}

abbrev pub decreases-loop-at : goal.decreases-loop-at
decreases-loop-at l = l.body.end - l.at
