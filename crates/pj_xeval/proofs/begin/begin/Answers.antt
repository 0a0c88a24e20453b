use Rattle.std.proofs.Common.{Ok, length}
use Rattle.pj_xsteps.specs.Context.{around}
use Rattle.pj_xeval.proofs.Arms.{goes-task}
use Rattle.pj_xeval.proofs.begin.begin.Goals as goal

pub returns-in-Expression-clause-goes : goal.returns-in-Expression-clause-goes
returns-in-Expression-clause-goes g c = λ reply.
    let a = around c.args.setting.now.tree.now (g.A.Attributes.attribute_of c.args.setting.now.facts.now) (g.A.Attributes.names_of c.args.setting.now.facts.now) c.args.setting.now.patterns.now in
    let at = c.args.at.now in
    let s = c.args.scope.now in
    goes-task a reply at s c.expression.result c.args.task _ c.in-Expression.is (c.expression.ensures.goes reply)

pub returns-in-For-clause-goes : goal.returns-in-For-clause-goes
returns-in-For-clause-goes g c = λ reply.
    let a = around c.args.setting.now.tree.now (g.A.Attributes.attribute_of c.args.setting.now.facts.now) (g.A.Attributes.names_of c.args.setting.now.facts.now) c.args.setting.now.patterns.now in
    let at = c.args.at.now in
    let s = c.args.scope.now in
    goes-task a reply at s (Ok c.for_from.result) c.args.task _ c.in-For.is (c.for_from.ensures.goes a reply at s)

pub returns-in-For-clause-of_tree : goal.returns-in-For-clause-of_tree
returns-in-For-clause-of_tree g c = c.for_from.ensures.of_tree (length c.args.setting.now.tree.now.nodes)

pub returns-in-Quantified-clause-goes : goal.returns-in-Quantified-clause-goes
returns-in-Quantified-clause-goes g c = λ reply.
    let a = around c.args.setting.now.tree.now (g.A.Attributes.attribute_of c.args.setting.now.facts.now) (g.A.Attributes.names_of c.args.setting.now.facts.now) c.args.setting.now.patterns.now in
    let at = c.args.at.now in
    let s = c.args.scope.now in
    goes-task a reply at s (Ok c.quantified_from.result) c.args.task _ c.in-Quantified.is (c.quantified_from.ensures.goes a reply at s)

pub returns-in-Quantified-clause-of_tree : goal.returns-in-Quantified-clause-of_tree
returns-in-Quantified-clause-of_tree g c = c.quantified_from.ensures.of_tree (length c.args.setting.now.tree.now.nodes)
