use Rattle.std.proofs.Common.{Some, sym, subst}
use Rattle.std.specs.Prelude.{All}
use Rattle.std.proofs.lemmas.List.Elements.{All-push, All-pop}
use Rattle.pj_peg.specs.Plan.{IsAsked}
use Rattle.pj_peg.proofs.ask.stack_up.Goals as goal

pub loop-question-preserved : goal.loop-question-preserved
loop-question-preserved c = record {
  rest = λ p kinds all. (All-pop (IsAsked p kinds) c.loop-question.given_up.items c.pop.new.self.items (Some c.in-Some.question) c.in-Some.ensures.items (c.loop-question.invariant.rest p kinds all)).0;
  moved = λ p kinds all stack. subst (All (IsAsked p kinds)) (sym c.in_ok-push.ensures.items)
      (All-push (IsAsked p kinds) c.loop-question.stack.items c.in-Some.question (c.loop-question.invariant.moved p kinds all stack)
      (All-pop (IsAsked p kinds) c.loop-question.given_up.items c.pop.new.self.items (Some c.in-Some.question) c.in-Some.ensures.items (c.loop-question.invariant.rest p kinds all)).1);
}
