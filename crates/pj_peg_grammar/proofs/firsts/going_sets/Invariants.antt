use Rattle.std.proofs.Common.{◌≡◌, map, take}
use Rattle.pj_peg_grammar.specs.Firsts.{going_of}
use Rattle.pj_peg_grammar.proofs.firsts.going_sets.Given as goal

abbrev pub invariant-loop-beginning : goal.invariant-loop-beginning
invariant-loop-beginning l = l.sets.items ≡ map going_of (take l.beginning-index l.all)
