use Rattle.std.proofs.Common.{length, List, map, subst, sym, ap, ◌∙◌}
use Rattle.pj_xexpressions.specs.declared.expr.Expr.{Expr}
use Rattle.pj_xvalue.specs.Items.{ItemValue, values_of}
use Rattle.pj_xsteps.specs.Means.{Means}
use Rattle.pj_xsteps.specs.Context.{around}
use Rattle.pj_xsteps.specs.Denotes.{denotes}
use Rattle.pj_xframes.specs.declared.frame.Turn.{Turn}
use Rattle.pj_xframes.specs.declared.frame.Turn.TheVariants as turn
use Rattle.pj_xframes.specs.Frames.{over}
use Rattle.pj_xframes.specs.Going.{GoesIf}
use Rattle.pj_xframes.specs.Scopes.{variables_of}
use Rattle.pj_xeval.proofs.Fronts.{whole}
use Rattle.pj_xeval.proofs.turns.turns_over.Goals as goal

pub returns-in-empty-clause-of_tree : goal.returns-in-empty-clause-of_tree
returns-in-empty-clause-of_tree g c = c.ordered_last.ensures.of_tree (length c.args.setting.now.tree.now.nodes) c.requires.items

pub returns-in-Step-clause-goes : goal.returns-in-Step-clause-goes
returns-in-Step-clause-goes g c = λ reply s.
    let a = around c.args.setting.now.tree.now (g.A.Attributes.attribute_of c.args.setting.now.facts.now) (g.A.Attributes.names_of c.args.setting.now.facts.now) c.args.setting.now.patterns.now in
    let v = variables_of s in
    let items = values_of c.args.items in
    subst (λ (m : Means (List ItemValue)). GoesIf a reply m c.step_over.new.at s c.args.at.now s c.step_over.result)
    (ap (λ (ps : List Expr). over turn.Step v (map (denotes a reply) ps) items) (sym (whole c.args.parts.now c.part-item.result c.in-len1-up.len_at_least c.part-item.is))
    ∙ ap (λ (w : Turn). over w v (map (denotes a reply) c.args.parts.now) items) (sym c.in-Step.is))
    (c.step_over.ensures.goes reply s)

pub returns-in_default-clause-goes : goal.returns-in_default-clause-goes
returns-in_default-clause-goes g c = λ reply s.
    let a = around c.args.setting.now.tree.now (g.A.Attributes.attribute_of c.args.setting.now.facts.now) (g.A.Attributes.names_of c.args.setting.now.facts.now) c.args.setting.now.patterns.now in
    let v = variables_of s in
    let items = values_of c.args.items in
    subst (λ (m : Means (List ItemValue)). GoesIf a reply m c.first_turn.new.at s c.args.at.now s c.first_turn.result)
    (ap (λ (ps : List Expr). over c.args.what v (map (denotes a reply) ps) items) (sym (whole c.args.parts.now c.part-item.result c.in-len1-up.len_at_least c.part-item.is)))
    (c.first_turn.ensures.goes a reply s)

pub returns-in_default-clause-of_tree : goal.returns-in_default-clause-of_tree
returns-in_default-clause-of_tree g c = c.first_turn.ensures.of_tree (length c.args.setting.now.tree.now.nodes) c.requires.items c.requires.item

pub returns-in_default-clause-item : goal.returns-in_default-clause-item
returns-in_default-clause-item g c = c.first_turn.ensures.item (length c.args.setting.now.tree.now.nodes) c.requires.items c.requires.item
