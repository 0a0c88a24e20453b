use Rattle.pj_peg_grammar.proofs.Orders.{IsPlacingTurn}
use Rattle.pj_peg_grammar.proofs.graph.place_further.Given as goal

abbrev pub invariant-loop-rule : goal.invariant-loop-rule
invariant-loop-rule l = IsPlacingTurn l.graph l.fn.placed.items l.order.items l.placed.items l.added l.rule

abbrev pub decreases-loop-rule : goal.decreases-loop-rule
decreases-loop-rule l = l.rule
