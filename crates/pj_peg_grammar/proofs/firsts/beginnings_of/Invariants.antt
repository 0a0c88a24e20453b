use Rattle.std.proofs.Common.{◌≡◌, map, take}
use Rattle.pj_peg_grammar.specs.Program.{forms_in}
use Rattle.pj_peg_grammar.specs.Analysis.{is_set}
use Rattle.pj_peg_grammar.specs.Firsts.{beginning_by, set_at}
use Rattle.pj_peg_grammar.proofs.firsts.beginnings_of.Given as goal

abbrev pub invariant-loop-node : goal.invariant-loop-node
invariant-loop-node l = l.all.items ≡ map (beginning_by (is_set l.empty) (set_at l.sets)) (forms_in (take l.node-index l.program.nodes.items))
