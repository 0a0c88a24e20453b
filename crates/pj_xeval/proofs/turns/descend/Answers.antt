use Rattle.std.proofs.Common.{map, refl, sym, ◌∙◌}
use Rattle.pj_xexpressions.specs.declared.axis.Axis.TheVariants.{DescendantOrSelf}
use Rattle.pj_xexpressions.specs.declared.expr.NodeTest.TheVariants.{AnyNode}
use Rattle.pj_xvalue.specs.Items.{values_of}
use Rattle.pj_xsteps.specs.Context.{around}
use Rattle.pj_xsteps.specs.Denotes.{denotes}
use Rattle.pj_xframes.specs.Scopes.{variables_of}
use Rattle.pj_xeval.proofs.Walking.{descended, refused}
use Rattle.pj_xeval.proofs.turns.descend.Goals as goal

pub returns-then-not-are_nodes-clause-goes : goal.returns-then-not-are_nodes-clause-goes
returns-then-not-are_nodes-clause-goes g c = λ reply d s begins.
    let a = around c.args.setting.now.tree.now (g.A.Attributes.attribute_of c.args.setting.now.facts.now) (g.A.Attributes.names_of c.args.setting.now.facts.now) c.args.setting.now.patterns.now in
    refused a reply c.args.setting.now.tree.now DescendantOrSelf AnyNode (variables_of s) (map (denotes a reply) c.args.rest.now) (values_of c.args.items.now) (sym c.are_nodes.ensures ∙ c.if-not-are_nodes.true)

pub returns-clause-goes : goal.returns-clause-goes
returns-clause-goes g c = λ reply d s begins.
    let a = around c.args.setting.now.tree.now (g.A.Attributes.attribute_of c.args.setting.now.facts.now) (g.A.Attributes.names_of c.args.setting.now.facts.now) c.args.setting.now.patterns.now in
    record {
      meaning = descended a reply c.args.test.now c.args.rest.now (variables_of s) (values_of c.args.items.now) (values_of c.in_ok-parents.parents) begins (sym c.are_nodes.ensures ∙ c.if-not-are_nodes.false) c.in_ok-parents.ensures.value;
      context = refl;
      scope = refl;
    }
