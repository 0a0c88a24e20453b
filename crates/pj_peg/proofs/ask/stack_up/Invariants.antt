use Rattle.std.proofs.Common.{ℕ, List, vec_len}
use Rattle.std.specs.Prelude.{All}
use Rattle.pj_peg_grammar.specs.declared.program.Program.{Program}
use Rattle.pj_peg.specs.Plan.{IsAsked}
use Rattle.pj_peg.proofs.ask.stack_up.Given as goal

abbrev pub invariant-loop-question : goal.invariant-loop-question
invariant-loop-question l = record {
  rest : (p : Program) (kinds : List ℕ) → All (IsAsked p kinds) l.fn.given_up.items → All (IsAsked p kinds) l.given_up.items;
  moved : (p : Program) (kinds : List ℕ) → All (IsAsked p kinds) l.fn.given_up.items → All (IsAsked p kinds) l.fn.stack.items → All (IsAsked p kinds) l.stack.items;
}

abbrev pub decreases-loop-question : goal.decreases-loop-question
decreases-loop-question l = vec_len l.given_up
