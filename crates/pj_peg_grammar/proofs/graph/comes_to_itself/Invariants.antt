use Rattle.std.proofs.Common.{◌+◌, ◌*◌, length}
use Rattle.pj_peg_grammar.specs.Analysis.{unset}
use Rattle.pj_peg_grammar.proofs.Marking.{IsSearch}
use Rattle.pj_peg_grammar.proofs.graph.comes_to_itself.Given as goal

abbrev pub invariant-loop-next : goal.invariant-loop-next
invariant-loop-next l = IsSearch l.graph l.rule l.seen.items l.todo.items

abbrev pub decreases-loop-next : goal.decreases-loop-next
decreases-loop-next l = 2 * unset l.seen.items + length l.todo.items
