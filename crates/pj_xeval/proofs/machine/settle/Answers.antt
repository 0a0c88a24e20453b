use Rattle.std.proofs.Common.{ap, length, subst, sym, ◌∙◌}
use Rattle.std.proofs.lemmas.Result.{err_from_is_err_and}
use Rattle.pj_xsteps.specs.Context.{around}
use Rattle.pj_xeval.specs.declared.machine.Stepped.{Stepped}
use Rattle.pj_xeval.specs.Whole.{SteppedOfTree, stepped_meaning}
use Rattle.pj_xeval.proofs.Stepping.{stops-alike}
use Rattle.pj_xeval.proofs.machine.settle.Goals as goal

pub returns-in_err-more-clause-comes : goal.returns-in_err-more-clause-comes
returns-in_err-more-clause-comes g c = λ reply.
    let a = around c.args.setting.now.tree.now (g.A.Attributes.attribute_of c.args.setting.now.facts.now) (g.A.Attributes.names_of c.args.setting.now.facts.now) c.args.setting.now.patterns.now in
    let p = err_from_is_err_and c.from_residual.result c.from_residual.ensures.1 in
    rw (p.1, p.2)
    (stops-alike (λ (stepped : Stepped). stepped_meaning a reply stepped c.args.frames.now c.args.at.now c.args.scope.now) (λ (stepped : Stepped). stepped_meaning a reply stepped c.args.frames.now c.args.at.now c.args.scope.now) _ _ c.in_err-more.field-0.0
    (c.loop-step.invariant.same reply) (c.in_err-more.ensures.comes reply))

pub returns-in-Paused-clause-comes : goal.returns-in-Paused-clause-comes
returns-in-Paused-clause-comes g c = λ reply.
    let a = around c.args.setting.now.tree.now (g.A.Attributes.attribute_of c.args.setting.now.facts.now) (g.A.Attributes.names_of c.args.setting.now.facts.now) c.args.setting.now.patterns.now in
    sym (ap (λ (stepped : Stepped). stepped_meaning a reply stepped c.step.new.frames c.step.new.at c.step.new.scope) c.in-Paused.is) ∙ c.in_ok-more.ensures.comes reply ∙ c.loop-step.invariant.same reply

pub returns-in-Paused-clause-of_tree : goal.returns-in-Paused-clause-of_tree
returns-in-Paused-clause-of_tree g c = subst (λ (stepped : Stepped). SteppedOfTree (length c.args.setting.now.tree.now.nodes) stepped) c.in-Paused.is c.in_ok-more.ensures.of_tree

pub loop-step-preserved : goal.loop-step-preserved
loop-step-preserved g c =
    let a = around c.args.setting.now.tree.now (g.A.Attributes.attribute_of c.args.setting.now.facts.now) (g.A.Attributes.names_of c.args.setting.now.facts.now) c.args.setting.now.patterns.now in
    record {
      same = λ reply. sym (ap (λ (stepped : Stepped). stepped_meaning a reply stepped c.step.new.frames c.step.new.at c.step.new.scope) c.in-Going.is) ∙ c.in_ok-more.ensures.comes reply ∙ c.loop-step.invariant.same reply;
      next = subst (λ (stepped : Stepped). SteppedOfTree (length c.args.setting.now.tree.now.nodes) stepped) c.in-Going.is c.in_ok-more.ensures.of_tree;
      frames = c.in_ok-more.ensures.frames;
      item = c.in_ok-more.ensures.item;
      variables = c.in_ok-more.ensures.variables;
    }
