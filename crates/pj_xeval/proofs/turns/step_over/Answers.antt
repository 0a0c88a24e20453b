use Rattle.std.proofs.Common.{◌∷◌, length, List, map, subst, sym, ap, ◌∙◌}
use Rattle.pj_xexpressions.specs.declared.expr.Expr.{Expr}
use Rattle.pj_xvalue.specs.declared.item.Item.{Item}
use Rattle.pj_xvalue.specs.Items.{ItemValue, values_of}
use Rattle.pj_xsteps.specs.Means.{Means}
use Rattle.pj_xsteps.specs.Context.{around}
use Rattle.pj_xsteps.specs.Denotes.{denotes}
use Rattle.pj_xframes.specs.declared.frame.Turn.TheVariants as turn
use Rattle.pj_xframes.specs.Frames.{over}
use Rattle.pj_xframes.specs.Going.{GoesIf}
use Rattle.pj_xframes.specs.Scopes.{variables_of}
use Rattle.pj_xeval.specs.Plain.{plain_step}
use Rattle.pj_xeval.proofs.Walking.{no-predicates, plain}
use Rattle.pj_xeval.proofs.turns.step_over.Goals as goal

pub returns-then-is_empty-clause-goes : goal.returns-then-is_empty-clause-goes
returns-then-is_empty-clause-goes g c = λ reply s.
    let t = c.args.setting.now.tree.now in
    let a = around t (g.A.Attributes.attribute_of c.args.setting.now.facts.now) (g.A.Attributes.names_of c.args.setting.now.facts.now) c.args.setting.now.patterns.now in
    let v = variables_of s in
    let ds = map (denotes a reply) c.args.rest.now in
    let items = values_of c.args.items in
    let none = no-predicates c.in-Step.predicates (sym c.is_empty.ensures ∙ c.if-is_empty.true) in
    subst (λ (m : Means (List ItemValue)). GoesIf a reply m c.args.at.now s c.args.at.now s c.plain_or_descend.result)
    (ap (λ (xs : List Item). plain_step t c.in-Step.along c.in-Step.test v ds (values_of xs)) c.as_slice.ensures
    ∙ plain a reply c.in-Step.along c.in-Step.test c.in-Step.predicates v ds items none
    ∙ ap (λ (e : Expr). over turn.Step v (denotes a reply e ∷ ds) items) (sym c.in-Step.is))
    (c.plain_or_descend.ensures.goes reply c.args.at.now s)

pub returns-clause-goes : goal.returns-clause-goes
returns-clause-goes g c = λ reply s.
    let a = around c.args.setting.now.tree.now (g.A.Attributes.attribute_of c.args.setting.now.facts.now) (g.A.Attributes.names_of c.args.setting.now.facts.now) c.args.setting.now.patterns.now in
    c.first_turn.ensures.goes a reply s

pub returns-clause-of_tree : goal.returns-clause-of_tree
returns-clause-of_tree g c = c.first_turn.ensures.of_tree (length c.args.setting.now.tree.now.nodes) c.requires.items c.requires.item
