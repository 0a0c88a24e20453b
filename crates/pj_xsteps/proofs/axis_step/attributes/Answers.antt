use Rattle.std.proofs.Common.{sym, subst, length, List}
use Rattle.pj_xvalue.specs.Items.{ItemValue, Element}
use Rattle.pj_xvalue.specs.OfTree.{OfTree}
use Rattle.pj_xsteps.specs.Context.{around}
use Rattle.pj_xsteps.proofs.OfTree.{attributes-of_tree}
use Rattle.pj_xsteps.proofs.axis_step.attributes.Goals as goal

pub returns-in_ok-found-in-Node-clause-of_tree : goal.returns-in_ok-found-in-Node-clause-of_tree
returns-in_ok-found-in-Node-clause-of_tree g c =
    let n = length c.args.setting.now.tree.now.nodes in
    let a = around c.args.setting.now.tree.now (g.A.Attributes.attribute_of c.args.setting.now.facts.now) (g.A.Attributes.names_of c.args.setting.now.facts.now) c.args.setting.now.patterns.now in
    subst (λ (xs : List ItemValue). OfTree n xs) (sym c.in_ok-found-in-Node.ensures) (attributes-of_tree a c.args.test.now n (Element c.in-Node.n) (rw c.in-Node.is at c.requires))
