use Rattle.pj_peg_grammar.proofs.Marking.{IsMarking}
use Rattle.pj_peg_grammar.proofs.graph.mark.Given as goal

abbrev pub invariant-loop-rule : goal.invariant-loop-rule
invariant-loop-rule l = IsMarking l.calls l.fn.seen.items l.fn.todo.items l.rule-index l.seen.items l.todo.items
