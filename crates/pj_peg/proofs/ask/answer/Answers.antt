use Rattle.std.proofs.Common.{Some}
use Rattle.std.specs.Prelude.{All}
use Rattle.std.proofs.lemmas.List.Elements.{All-pop}
use Rattle.pj_peg.specs.Plan.{IsAsked}
use Rattle.pj_peg.proofs.ask.answer.Goals as goal

pub end_of_column-requires-clause-column : goal.end_of_column-requires-clause-column
end_of_column-requires-clause-column c =
    let asked = IsAsked c.args.plan.now.program c.args.kinds.now in
    (All-pop asked c.stack_up.new.stack.items c.pop.new.self.items (Some c.in-Some.field-0) c.in-Some.ensures.items
    (c.in_ok-stack_up.ensures.moved c.args.plan.now.program c.args.kinds.now c.loop.invariant.sound.asked c.loop.invariant.asked)).1.1

pub end_of_column-requires-clause-within : goal.end_of_column-requires-clause-within
end_of_column-requires-clause-within c =
    let asked = IsAsked c.args.plan.now.program c.args.kinds.now in
    (All-pop asked c.stack_up.new.stack.items c.pop.new.self.items (Some c.in-Some.field-0) c.in-Some.ensures.items
    (c.in_ok-stack_up.ensures.moved c.args.plan.now.program c.args.kinds.now c.loop.invariant.sound.asked c.loop.invariant.asked)).1.0

pub loop-preserved : goal.loop-preserved
loop-preserved c =
    let asked = IsAsked c.args.plan.now.program c.args.kinds.now in
    record {
      sound = c.end_of_column.ensures.sound;
      asked = (All-pop asked c.stack_up.new.stack.items c.pop.new.self.items (Some c.in-Some.field-0) c.in-Some.ensures.items
          (c.in_ok-stack_up.ensures.moved c.args.plan.now.program c.args.kinds.now c.loop.invariant.sound.asked c.loop.invariant.asked)).0;
    }
