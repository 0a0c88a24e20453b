use Rattle.pj_peg.specs.Plan.{IsSound}
use Rattle.pj_peg.proofs.ask.end_at.Given as goal

abbrev pub invariant-loop : goal.invariant-loop
invariant-loop l = IsSound l.plan l.kinds l.memo
