use Rattle.pj_ll.specs.Grammar.{grammar_of}
use Rattle.pj_ll.specs.Parsing.{HasComeTo}
use Rattle.pj_ll.specs.Steps.{ArePlaced, productions_in}
use Rattle.pj_ll.proofs.parser.parse.Given as goal

abbrev pub ghost-advance : goal.ghost-advance
ghost-advance g a = g.facts

abbrev pub ghost-finish : goal.ghost-finish
ghost-finish g a = g.facts

abbrev pub invariant-loop-place : goal.invariant-loop-place
invariant-loop-place g l = record {
  come : HasComeTo g.facts l.table l.terminals l.deepest l.place l.stack (productions_in l.steps.items);
  placed : ArePlaced (grammar_of l.table) l.terminals l.steps.items;
}
