use Rattle.std.proofs.Common.{◌≤◌, length}
use Rattle.std.specs.Prelude.{reverse}
use Rattle.pj_peg_grammar.specs.Program.{rules_of}
use Rattle.pj_peg.specs.Plan.{IsSound}
use Rattle.pj_peg.proofs.Emitting.{Emits}
use Rattle.pj_peg.proofs.runner.steps_of_call.Given as goal

abbrev pub invariant-loop : goal.invariant-loop
invariant-loop l = record {
  few : length l.steps.items ≤ 4294967294;
  emits : Emits (rules_of l.plan.program) l.kinds l.fn.first l.steps.items (reverse l.stack.items);
  sound : IsSound l.plan l.kinds l.memo;
}
