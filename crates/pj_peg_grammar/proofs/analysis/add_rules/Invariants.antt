use Rattle.pj_peg_grammar.proofs.Turns.{IsTurn}
use Rattle.pj_peg_grammar.proofs.analysis.add_rules.Given as goal

abbrev pub invariant-loop-rule : goal.invariant-loop-rule
invariant-loop-rule l = IsTurn l.bits l.roots l.fn.set.items l.set.items l.added l.rule
