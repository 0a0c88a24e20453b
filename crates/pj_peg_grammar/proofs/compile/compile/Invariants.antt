use Rattle.std.proofs.Common.{map, take}
use Rattle.pj_peg_grammar.specs.Form.{form_of}
use Rattle.pj_peg_grammar.proofs.Roots.{AddsRoots}
use Rattle.pj_peg_grammar.proofs.compile.compile.Given as goal

abbrev pub invariant-loop-rule : goal.invariant-loop-rule
invariant-loop-rule l = AddsRoots l.nodes.items l.stars.items l.roots.items (map form_of (take l.rule-index l.rules))
