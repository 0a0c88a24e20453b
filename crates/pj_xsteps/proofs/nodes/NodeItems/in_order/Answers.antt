use Rattle.std.proofs.Common.{◌≡◌, subst, List}
use Rattle.pj_xvalue.specs.declared.item.Item.{Item}
use Rattle.pj_xvalue.specs.Items.{values_of}
use Rattle.pj_xvalue.specs.OfTree.{OfTree}
use Rattle.pj_xsteps.proofs.nodes.NodeItems.in_order.Goals as goal

pub returns-clause-of_tree : goal.returns-clause-of_tree
returns-clause-of_tree c =
    let same : c.args.self ≡ c.self.inside.items = cc in
    λ n h. c.in_order.ensures.of_tree n (subst (λ (xs : List Item). OfTree n (values_of xs)) same h)
