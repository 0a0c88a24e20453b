use Rattle.std.specs.Prelude.{ℕ, List}
use Rattle.pj_ll.specs.Grammar.{grammar_of}
use Rattle.pj_ll.specs.Predictive.{weight_of}
use Rattle.pj_ll.specs.Parsing.{HasLed, IsMoving}
use Rattle.pj_ll.specs.Steps.{productions_in}
use Rattle.pj_ll.proofs.parser.expand.Given as goal

abbrev pub invariant-loop-symbol : goal.invariant-loop-symbol
invariant-loop-symbol g l = record {
  moving : IsMoving g.facts l.table l.ahead l.initial.stack (productions_in l.initial.steps.items) l.stack (productions_in l.steps.items);
  led : (terminals : List ℕ) → HasLed (grammar_of l.table) terminals l.place l.initial.steps.items l.initial.stack →
      HasLed (grammar_of l.table) terminals l.place l.steps.items l.stack;
}

abbrev pub decreases-loop-symbol : goal.decreases-loop-symbol
decreases-loop-symbol g l = weight_of g.facts l.stack
