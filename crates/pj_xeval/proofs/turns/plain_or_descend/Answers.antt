use Rattle.std.proofs.Common.{◌∷◌, ◌-◌, length, map, take, drop, subst, sym, ap, ◌∙◌}
use Rattle.pj_xexpressions.specs.declared.axis.Axis.{Axis}
use Rattle.pj_xexpressions.specs.declared.axis.Axis.TheVariants.{DescendantOrSelf}
use Rattle.pj_xexpressions.specs.declared.expr.Expr.{Expr}
use Rattle.pj_xexpressions.specs.declared.expr.Expr.TheVariants as expr
use Rattle.pj_xexpressions.specs.declared.expr.NodeTest.{NodeTest}
use Rattle.pj_xvalue.specs.Items.{values_of}
use Rattle.pj_xsteps.specs.Context.{around}
use Rattle.pj_xsteps.specs.Denotes.{denotes}
use Rattle.pj_xframes.specs.Going.{GoesIf}
use Rattle.pj_xframes.specs.Scopes.{variables_of}
use Rattle.pj_xeval.specs.Plain.{BeginsBelow, plain_step}
use Rattle.pj_xeval.proofs.Fronts.{whole}
use Rattle.pj_xeval.proofs.turns.plain_or_descend.Goals as goal

pub returns-then-is_child-clause-goes : goal.returns-then-is_child-clause-goes
returns-then-is_child-clause-goes g c = λ reply d s.
    let t = c.args.setting.now.tree.now in
    let a = around t (g.A.Attributes.attribute_of c.args.setting.now.facts.now) (g.A.Attributes.names_of c.args.setting.now.facts.now) c.args.setting.now.patterns.now in
    let rest = c.args.rest.now in
    let behind = take (length rest - 1) (drop 1 rest) in
    let step = c.in-Step in
    let begins : BeginsBelow step.below rest = record {
      predicates = step.field-2;
      behind = behind;
      is = whole rest c.next-item.result c.in-len1-up.len_at_least c.next-item.is
          ∙ ap (λ (e : Expr). e ∷ behind) (step.is ∙ ap (λ (x : Axis). expr.Step x step.below step.field-2) (c.is_child.ensures c.if-is_child.true));
    } in
    subst (λ (x : Axis). GoesIf a reply (plain_step t x c.args.test.now (variables_of s) (map (denotes a reply) rest) (values_of c.args.items.now)) d s d s c.descend.result) (sym (c.is_descent.ensures.axis c.if-is_descent.true))
    (subst (λ (y : NodeTest). GoesIf a reply (plain_step t DescendantOrSelf y (variables_of s) (map (denotes a reply) rest) (values_of c.args.items.now)) d s d s c.descend.result) (sym (c.is_descent.ensures.test c.if-is_descent.true))
    (c.descend.ensures.goes reply d s begins))

pub returns-clause-goes : goal.returns-clause-goes
returns-clause-goes g c = λ reply d s.
    let a = around c.args.setting.now.tree.now (g.A.Attributes.attribute_of c.args.setting.now.facts.now) (g.A.Attributes.names_of c.args.setting.now.facts.now) c.args.setting.now.patterns.now in
    c.plain_step.ensures.goes a reply d s
