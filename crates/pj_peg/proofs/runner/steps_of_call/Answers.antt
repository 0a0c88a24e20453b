use Rattle.std.proofs.Common.{ap, arith, subst, sym, Vec, Global}
use Rattle.pj_peg.specs.Plan.{IsSound}
use Rattle.pj_peg_grammar.specs.declared.derivation.Step.{Step}
use Rattle.pj_peg.specs.declared.runner.Task.{Task}
use Rattle.pj_peg_grammar.specs.Program.{rules_of}
use Rattle.pj_peg.proofs.Emitting.{one_from, task_open, task_close, opened_length, closed_length}
use Rattle.pj_peg.proofs.runner.steps_of_call.Goals as goal
use Rattle.pj_peg.proofs.runner.steps_of_call.Goals.{in-Open+else-len-ge-MOST_STEPS+in_ok-open-in-Open, in-Close}

pub loop-preserved : goal.loop-preserved
loop-preserved c =
    let few = c.loop.invariant.few in
    let one = one_from (rules_of c.args.plan.now.program) c.args.kinds.now (λ r i lt. c.one_outcome.ensures.one_outcome (rules_of c.args.plan.now.program) c.args.kinds.now r i c.requires.plan.well_formed lt) in
    elim c.match-task.branch [
      | in-Open+else-len-ge-MOST_STEPS+in_ok-open-in-Open w ↦
          record {
            few = let len = w.len.ensures in let fits = w.if-len-ge-MOST_STEPS.false in let same = c.loop.steps.ok.0 in
                omega (
                  arith,
                  opened_length (rules_of c.args.plan.now.program) c.args.kinds.now w.in-Open.call c.loop.steps.items w.open.new.steps.items c.match-task.steps.items c.pop.new.self.items w.open.new.stack.items
                      w.in_ok-open-in-Open.ensures.opens (ap (λ (v : Vec Step Global). v.items) w.steps-is),
                );
            emits = task_open (rules_of c.args.plan.now.program) c.args.kinds.now one c.args.first w.in-Open.call c.in-Some.task c.loop.steps.items w.open.new.steps.items c.match-task.steps.items
                c.loop.stack.items c.pop.new.self.items w.open.new.stack.items c.match-task.stack.items c.loop.invariant.emits c.in-Some.ensures.items w.in-Open.is w.in_ok-open-in-Open.ensures.opens
                (ap (λ (v : Vec Step Global). v.items) w.steps-is) (ap (λ (v : Vec Task Global). v.items) w.stack-is);
            sound = subst (IsSound c.args.plan.now c.args.kinds.now) (sym w.memo-is) w.in_ok-open-in-Open.ensures.sound;
          }
      | in-Close w ↦
          record {
            few = omega (
              arith,
              closed_length (rules_of c.args.plan.now.program) c.args.kinds.now w.in-Close.number _ c.loop.steps.items w.close.new.steps.items c.match-task.steps.items
                  w.close.ensures (ap (λ (v : Vec Step Global). v.items) w.steps-is),
            );
            emits = task_close (rules_of c.args.plan.now.program) c.args.kinds.now c.args.first w.in-Close.number c.in-Some.task c.loop.steps.items w.close.new.steps.items c.match-task.steps.items
                c.loop.stack.items c.pop.new.self.items c.pop.new.self.items c.match-task.stack.items c.loop.invariant.emits c.in-Some.ensures.items w.in-Close.is w.close.ensures
                (ap (λ (v : Vec Step Global). v.items) w.steps-is) (ap (λ (v : Vec Task Global). v.items) w.stack-is);
            sound = subst (IsSound c.args.plan.now c.args.kinds.now) (sym w.memo-is) c.loop.invariant.sound;
          }
    ]
