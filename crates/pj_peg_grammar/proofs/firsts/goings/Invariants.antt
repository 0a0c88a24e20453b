use Rattle.std.proofs.Common.{◌≡◌, length}
use Rattle.pj_peg_grammar.specs.Firsts.{missing}
use Rattle.pj_peg_grammar.proofs.firsts.goings.Given as goal

abbrev pub invariant-loop-sets : goal.invariant-loop-sets
invariant-loop-sets l = length l.sets.items ≡ length l.program.roots.items

abbrev pub decreases-loop-sets : goal.decreases-loop-sets
decreases-loop-sets l = missing l.sets.items
