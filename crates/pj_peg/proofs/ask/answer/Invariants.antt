use Rattle.std.specs.Prelude.{All}
use Rattle.pj_peg.specs.Plan.{IsSound, IsAsked}
use Rattle.pj_peg.proofs.ask.answer.Given as goal

abbrev pub invariant-loop : goal.invariant-loop
invariant-loop l = record {
  sound : IsSound l.plan l.kinds l.memo;
  asked : All (IsAsked l.plan.program l.kinds) l.stack.items;
}
