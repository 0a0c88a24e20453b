use Rattle.std.proofs.Common.{◌<◌, ◌≤◌, length}
use Rattle.pj_peg_grammar.proofs.Begun.{Adds}
use Rattle.pj_peg_grammar.proofs.graph.+add_begun.Given as goal

abbrev pub invariant-loop-node : goal.invariant-loop-node
invariant-loop-node l = record {
  within : l.node < length l.nodes;
  down : l.node ≤ l.fn.root;
  adds : Adds l.nodes l.facts l.fn.found.items l.fn.root l.found.items l.node;
}

abbrev pub decreases-loop-node : goal.decreases-loop-node
decreases-loop-node l = l.node

abbrev pub decreases-add_begun : goal.decreases-add_begun
decreases-add_begun l = l.root
