use Rattle.pj_peg.proofs.Emitting.{stacked}
use Rattle.pj_peg.proofs.runner.stack_up.Goals as goal

pub loop-call-preserved : goal.loop-call-preserved
loop-call-preserved c =
    stacked c.loop-call.calls.items c.pop.new.self.items c.args.calls.now.items c.in-Some.call c.loop-call.stack.items c.push.new.self.items c.args.stack.now.items
    c.in-Some.ensures.items c.in_ok-push.ensures.items c.loop-call.invariant
