use Rattle.std.proofs.Common.{◌≡◌, map, take, length}
use Rattle.pj_peg_grammar.specs.Program.{forms_in}
use Rattle.pj_peg_grammar.specs.Analysis.{facts_by, is_set}
use Rattle.pj_peg_grammar.proofs.analysis.facts_of.Given as goal

abbrev pub invariant-loop-node : goal.invariant-loop-node
invariant-loop-node l = l.facts.items ≡ map (facts_by (is_set l.empty) (length l.empty)) (forms_in (take l.node-index l.program.nodes.items))
