use Rattle.pj_peg_grammar.specs.Analysis.{unset}
use Rattle.pj_peg_grammar.specs.Graph.{IsPlacing}
use Rattle.pj_peg_grammar.proofs.graph.place_rules.Given as goal

abbrev pub invariant-loop-placed : goal.invariant-loop-placed
invariant-loop-placed l = IsPlacing l.graph l.order.items l.placed.items

abbrev pub decreases-loop-placed : goal.decreases-loop-placed
decreases-loop-placed l = unset l.placed.items
