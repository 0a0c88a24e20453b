use Rattle.std.proofs.Common.{List, length, map, subst, sym, ◌∙◌}
use Rattle.pj_xvalue.specs.Items.{ItemValue, values_of}
use Rattle.pj_xsteps.specs.Means.{Means}
use Rattle.pj_xsteps.specs.Denotes.{denotes}
use Rattle.pj_xframes.specs.Going.{GoesIf}
use Rattle.pj_xframes.specs.Scopes.{variables_of}
use Rattle.pj_xeval.proofs.Walking.{allowed, refused}
use Rattle.pj_xeval.proofs.turns.plain_step.Goals as goal

pub returns-then-not-are_nodes-clause-goes : goal.returns-then-not-are_nodes-clause-goes
returns-then-not-are_nodes-clause-goes g c = λ a reply d s.
    refused a reply c.args.setting.now.tree.now c.args.along c.args.test.now (variables_of s) (map (denotes a reply) c.args.rest.now) (values_of c.args.items.now) (sym c.are_nodes.ensures ∙ c.if-not-are_nodes.true)

pub returns-clause-goes : goal.returns-clause-goes
returns-clause-goes g c = λ a reply d s.
    subst (λ (m : Means (List ItemValue)). GoesIf a reply m d s d s c.finish.result)
    (allowed a reply c.args.setting.now.tree.now c.args.along c.args.test.now (variables_of s) (map (denotes a reply) c.args.rest.now) (values_of c.args.items.now) (values_of c.in_ok-found.found) (sym c.are_nodes.ensures ∙ c.if-not-are_nodes.false) c.in_ok-found.ensures.value)
    (c.finish.ensures.goes a reply d s)

pub returns-clause-of_tree : goal.returns-clause-of_tree
returns-clause-of_tree g c = c.finish.ensures.of_tree (length c.args.setting.now.tree.now.nodes) c.in_ok-found.ensures.of_tree
