use Rattle.std.proofs.Common.{ap, length, map, subst, sym, ◌∙◌}
use Rattle.std.proofs.lemmas.Result.{err_from_is_err_and}
use Rattle.pj_xvalue.specs.Items.{values_of}
use Rattle.pj_xsteps.specs.Context.{around}
use Rattle.pj_xsteps.specs.Denotes.{denotes}
use Rattle.pj_xframes.specs.declared.frame.Next.{Next}
use Rattle.pj_xeval.specs.declared.machine.Stepped.{Stepped}
use Rattle.pj_xframes.specs.Frames.{over, task_meaning}
use Rattle.pj_xframes.specs.Going.{NextOfTree}
use Rattle.pj_xframes.specs.Scopes.{variables_of}
use Rattle.pj_xeval.specs.Whole.{state_meaning, stepped_meaning}
use Rattle.pj_xeval.proofs.OfTree.{frames-before, frames-pushed}
use Rattle.pj_xeval.proofs.Stepping.{stops-alike, value-stops, within-stops, same-stops, value-done}
use Rattle.pj_xeval.proofs.Whole.{value-goes, within-goes, same-goes}
use Rattle.pj_xeval.proofs.machine.step.Goals as goal

pub returns-in_err-react-in-Some-clause-comes : goal.returns-in_err-react-in-Some-clause-comes
returns-in_err-react-in-Some-clause-comes g c = λ reply.
    let a = around c.args.setting.now.tree.now (g.A.Attributes.attribute_of c.args.setting.now.facts.now) (g.A.Attributes.names_of c.args.setting.now.facts.now) c.args.setting.now.patterns.now in
    let p = err_from_is_err_and c.from_residual.result c.from_residual.ensures.1 in
    rw (p.1, p.2)
    (stops-alike (λ (stepped : Stepped). stepped_meaning a reply stepped c.args.frames.now c.args.at.now c.args.scope.now) (λ (stepped : Stepped). stepped_meaning a reply stepped c.args.frames.now c.args.at.now c.args.scope.now) _ (state_meaning a reply c.args.next c.args.frames.now c.args.at.now c.args.scope.now) c.in_err-react-in-Some.field-0.0
    (ap (λ (x : Next). state_meaning a reply x c.args.frames.now c.args.at.now c.args.scope.now) (sym c.in-Value.is))
    (value-stops a reply (λ (stepped : Stepped). stepped_meaning a reply stepped c.args.frames.now c.args.at.now c.args.scope.now) c.in-Some.frame c.pop.new.self c.args.frames.now c.args.at.now c.args.scope.now c.in-Value.value c.args.at.now c.args.at.now c.args.scope.now c.args.scope.now c.in_err-react-in-Some.field-0.0 c.in-Some.ensures
    (c.in_err-react-in-Some.ensures.goes reply)))

pub returns-in_err-begin-in-Within-clause-comes : goal.returns-in_err-begin-in-Within-clause-comes
returns-in_err-begin-in-Within-clause-comes g c = λ reply.
    let a = around c.args.setting.now.tree.now (g.A.Attributes.attribute_of c.args.setting.now.facts.now) (g.A.Attributes.names_of c.args.setting.now.facts.now) c.args.setting.now.patterns.now in
    let p = err_from_is_err_and c.from_residual-in_err-begin-in-Within.result c.from_residual-in_err-begin-in-Within.ensures.1 in
    rw (p.1, p.2)
    (stops-alike (λ (stepped : Stepped). stepped_meaning a reply stepped c.args.frames.now c.args.at.now c.args.scope.now) (λ (stepped : Stepped). stepped_meaning a reply stepped c.args.frames.now c.args.at.now c.args.scope.now) _ (state_meaning a reply c.args.next c.args.frames.now c.args.at.now c.args.scope.now) c.in_err-begin-in-Within.field-0.0
    (ap (λ (x : Next). state_meaning a reply x c.args.frames.now c.args.at.now c.args.scope.now) (sym c.in-Within.is))
    (within-stops a reply (λ (stepped : Stepped). stepped_meaning a reply stepped c.args.frames.now c.args.at.now c.args.scope.now) c.in-Within.task c.in-Within.frame c.args.frames.now c.push.new.self c.args.at.now c.args.scope.now c.in_err-begin-in-Within.field-0.0 c.in_ok-push-in-Within.ensures.ok
    (c.in_err-begin-in-Within.ensures.goes reply)))

pub returns-in_err-begin-in-Instead-clause-comes : goal.returns-in_err-begin-in-Instead-clause-comes
returns-in_err-begin-in-Instead-clause-comes g c = λ reply.
    let a = around c.args.setting.now.tree.now (g.A.Attributes.attribute_of c.args.setting.now.facts.now) (g.A.Attributes.names_of c.args.setting.now.facts.now) c.args.setting.now.patterns.now in
    let p = err_from_is_err_and c.from_residual-in_err-begin-in-Instead.result c.from_residual-in_err-begin-in-Instead.ensures.1 in
    rw (p.1, p.2)
    (stops-alike (λ (stepped : Stepped). stepped_meaning a reply stepped c.args.frames.now c.args.at.now c.args.scope.now) (λ (stepped : Stepped). stepped_meaning a reply stepped c.args.frames.now c.args.at.now c.args.scope.now) _ (state_meaning a reply c.args.next c.args.frames.now c.args.at.now c.args.scope.now) c.in_err-begin-in-Instead.field-0.0
    (ap (λ (x : Next). state_meaning a reply x c.args.frames.now c.args.at.now c.args.scope.now) (sym c.in-Instead.is))
    (same-stops a reply (λ (stepped : Stepped). stepped_meaning a reply stepped c.args.frames.now c.args.at.now c.args.scope.now) (task_meaning a reply c.in-Instead.task c.args.at.now (variables_of c.args.scope.now)) c.args.frames.now c.args.at.now c.args.at.now c.args.scope.now c.args.scope.now c.in_err-begin-in-Instead.field-0.0
    (c.in_err-begin-in-Instead.ensures.goes reply)))

pub returns-in_err-turns_over-in-Over-clause-comes : goal.returns-in_err-turns_over-in-Over-clause-comes
returns-in_err-turns_over-in-Over-clause-comes g c = λ reply.
    let a = around c.args.setting.now.tree.now (g.A.Attributes.attribute_of c.args.setting.now.facts.now) (g.A.Attributes.names_of c.args.setting.now.facts.now) c.args.setting.now.patterns.now in
    let p = err_from_is_err_and c.from_residual-in_err-turns_over-in-Over.result c.from_residual-in_err-turns_over-in-Over.ensures.1 in
    rw (p.1, p.2)
    (stops-alike (λ (stepped : Stepped). stepped_meaning a reply stepped c.args.frames.now c.args.at.now c.args.scope.now) (λ (stepped : Stepped). stepped_meaning a reply stepped c.args.frames.now c.args.at.now c.args.scope.now) _ (state_meaning a reply c.args.next c.args.frames.now c.args.at.now c.args.scope.now) c.in_err-turns_over-in-Over.field-0.0
    (ap (λ (x : Next). state_meaning a reply x c.args.frames.now c.args.at.now c.args.scope.now) (sym c.in-Over.is))
    (same-stops a reply (λ (stepped : Stepped). stepped_meaning a reply stepped c.args.frames.now c.args.at.now c.args.scope.now) (over c.in-Over.what (variables_of c.args.scope.now) (map (denotes a reply) c.in-Over.parts.now) (values_of c.in-Over.items)) c.args.frames.now c.args.at.now c.turns_over.new.at c.args.scope.now c.args.scope.now c.in_err-turns_over-in-Over.field-0.0
    (c.in_err-turns_over-in-Over.ensures.goes reply c.args.scope.now)))

pub returns-in_ok-react-in-Some-clause-comes : goal.returns-in_ok-react-in-Some-clause-comes
returns-in_ok-react-in-Some-clause-comes g c = λ reply.
    let a = around c.args.setting.now.tree.now (g.A.Attributes.attribute_of c.args.setting.now.facts.now) (g.A.Attributes.names_of c.args.setting.now.facts.now) c.args.setting.now.patterns.now in
    value-goes a reply c.in-Some.frame c.pop.new.self c.args.frames.now c.args.at.now c.args.scope.now c.in-Value.value c.react.new.at c.react.new.scope c.in_ok-react-in-Some.field-0 c.in-Some.ensures (c.in_ok-react-in-Some.ensures.goes reply)
    ∙ ap (λ (x : Next). state_meaning a reply x c.args.frames.now c.args.at.now c.args.scope.now) (sym c.in-Value.is)

pub returns-in_ok-react-in-Some-clause-frames : goal.returns-in_ok-react-in-Some-clause-frames
returns-in_ok-react-in-Some-clause-frames g c = frames-before (length c.args.setting.now.tree.now.nodes) c.args.frames.now c.pop.new.self c.in-Some.frame c.in-Some.ensures c.requires.frames

pub returns-in-None-clause-comes : goal.returns-in-None-clause-comes
returns-in-None-clause-comes g c = λ reply.
    let a = around c.args.setting.now.tree.now (g.A.Attributes.attribute_of c.args.setting.now.facts.now) (g.A.Attributes.names_of c.args.setting.now.facts.now) c.args.setting.now.patterns.now in
    value-done a reply c.in-Value.value c.args.frames.now c.args.at.now c.args.scope.now c.in-None.ensures.0
    ∙ ap (λ (x : Next). state_meaning a reply x c.args.frames.now c.args.at.now c.args.scope.now) (sym c.in-Value.is)

pub returns-in_ok-begin-in-Within-clause-comes : goal.returns-in_ok-begin-in-Within-clause-comes
returns-in_ok-begin-in-Within-clause-comes g c = λ reply.
    let a = around c.args.setting.now.tree.now (g.A.Attributes.attribute_of c.args.setting.now.facts.now) (g.A.Attributes.names_of c.args.setting.now.facts.now) c.args.setting.now.patterns.now in
    within-goes a reply c.in-Within.task c.in-Within.frame c.args.frames.now c.push.new.self c.args.at.now c.args.scope.now c.in_ok-begin-in-Within.field-0 c.in_ok-push-in-Within.ensures.ok (c.in_ok-begin-in-Within.ensures.goes reply)
    ∙ ap (λ (x : Next). state_meaning a reply x c.args.frames.now c.args.at.now c.args.scope.now) (sym c.in-Within.is)

pub returns-in_ok-begin-in-Within-clause-frames : goal.returns-in_ok-begin-in-Within-clause-frames
returns-in_ok-begin-in-Within-clause-frames g c =
    let n = length c.args.setting.now.tree.now.nodes in
    frames-pushed n c.push.new.self c.args.frames.now c.in-Within.frame c.in_ok-push-in-Within.ensures.ok c.requires.frames (subst (λ (x : Next). NextOfTree n x) c.in-Within.is c.requires.next)

pub returns-in_ok-begin-in-Instead-clause-comes : goal.returns-in_ok-begin-in-Instead-clause-comes
returns-in_ok-begin-in-Instead-clause-comes g c = λ reply.
    let a = around c.args.setting.now.tree.now (g.A.Attributes.attribute_of c.args.setting.now.facts.now) (g.A.Attributes.names_of c.args.setting.now.facts.now) c.args.setting.now.patterns.now in
    same-goes a reply (task_meaning a reply c.in-Instead.task c.args.at.now (variables_of c.args.scope.now)) c.args.frames.now c.args.at.now c.args.scope.now c.args.at.now c.args.scope.now c.in_ok-begin-in-Instead.field-0 (c.in_ok-begin-in-Instead.ensures.goes reply)
    ∙ ap (λ (x : Next). state_meaning a reply x c.args.frames.now c.args.at.now c.args.scope.now) (sym c.in-Instead.is)

pub returns-in_ok-turns_over-in-Over-clause-comes : goal.returns-in_ok-turns_over-in-Over-clause-comes
returns-in_ok-turns_over-in-Over-clause-comes g c = λ reply.
    let a = around c.args.setting.now.tree.now (g.A.Attributes.attribute_of c.args.setting.now.facts.now) (g.A.Attributes.names_of c.args.setting.now.facts.now) c.args.setting.now.patterns.now in
    same-goes a reply (over c.in-Over.what (variables_of c.args.scope.now) (map (denotes a reply) c.in-Over.parts.now) (values_of c.in-Over.items)) c.args.frames.now c.args.at.now c.args.scope.now c.turns_over.new.at c.args.scope.now c.in_ok-turns_over-in-Over.field-0
    (c.in_ok-turns_over-in-Over.ensures.goes reply c.args.scope.now)
    ∙ ap (λ (x : Next). state_meaning a reply x c.args.frames.now c.args.at.now c.args.scope.now) (sym c.in-Over.is)

pub turns_over-requires-clause-items : goal.turns_over-requires-clause-items
turns_over-requires-clause-items g c = subst (λ (x : Next). NextOfTree (length c.args.setting.now.tree.now.nodes) x) c.in-Over.is c.requires.next
