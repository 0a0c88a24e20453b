use Rattle.pj_peg_grammar.proofs.Growing.{IsGrowing}
use Rattle.pj_peg_grammar.proofs.firsts.add_firsts.Given as goal

abbrev pub invariant-loop-rule : goal.invariant-loop-rule
invariant-loop-rule l = IsGrowing l.roots l.all l.fn.sets.items l.sets.items l.added l.rule
