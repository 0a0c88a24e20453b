use Rattle.std.proofs.Common.{◌≡◌, ◌∙◌, sym, ap, subst, filter, IsTrue, List}
use Rattle.pj_xvalue.specs.declared.item.Item.{Item}
use Rattle.pj_xvalue.specs.Items.{ItemValue, values_of, are_nodes}
use Rattle.pj_xvalue.specs.OfTree.{OfTree}
use Rattle.pj_xaxes.specs.Order.{has_item, ordered}
use Rattle.pj_xsteps.specs.Sets.{stays, chosen}
use Rattle.pj_xsteps.proofs.OfTree.{of_tree-filter}
use Rattle.pj_xsteps.proofs.Sets.{are_nodes-filter, are_nodes-ordered, chosen-ordered}
use Rattle.pj_xsteps.proofs.nodes.NodeItems.chosen.Goals as goal

pub in_order-all-requires : goal.in_order-all-requires
in_order-all-requires c =
    subst (λ (xs : List ItemValue). IsTrue (are_nodes xs)) (sym (c.in_ok-found.ensures ∙ (λ i. filter (λ x. stays c.args.operator (has_item (values_of (c.as_slice-2.ensures i)) x)) (values_of (c.as_slice.ensures i)))))
    (are_nodes-filter (λ x. stays c.args.operator (has_item (values_of c.in_order-sorted.result) x)) (values_of c.self.inside.items) c.self.invariant)

pub invariant_of-result : goal.invariant_of-result
invariant_of-result c =
    let is = c.in_ok-found.ensures ∙ (λ i. filter (λ x. stays c.args.operator (has_item (values_of (c.as_slice-2.ensures i)) x)) (values_of (c.as_slice.ensures i))) in
    let are = subst (λ (xs : List ItemValue). IsTrue (are_nodes xs)) (sym is) (are_nodes-filter (λ x. stays c.args.operator (has_item (values_of c.in_order-sorted.result) x)) (values_of c.self.inside.items) c.self.invariant) in
    subst (λ (xs : List ItemValue). IsTrue (are_nodes xs)) (sym c.in_order-all.ensures.value) (are_nodes-ordered (values_of c.in_ok-found.found) are)

pub returns-clause-value : goal.returns-clause-value
returns-clause-value c =
    let same : c.self.inside.items ≡ c.args.self = cc in
    let is = c.in_ok-found.ensures ∙ (λ i. filter (λ x. stays c.args.operator (has_item (values_of (c.as_slice-2.ensures i)) x)) (values_of (c.as_slice.ensures i))) in
    c.in_order-all.ensures.value ∙ ap ordered is
    ∙ (λ i. ordered (filter (λ x. stays c.args.operator (has_item (c.in_order-sorted.ensures.value i) x)) (values_of c.self.inside.items)))
    ∙ chosen-ordered c.args.operator (values_of c.self.inside.items) (values_of c.args.others)
    ∙ ap (λ (xs : List Item). chosen c.args.operator (values_of xs) (values_of c.args.others)) same

pub returns-clause-of_tree : goal.returns-clause-of_tree
returns-clause-of_tree c =
    let same : c.args.self ≡ c.self.inside.items = cc in
    let is = c.in_ok-found.ensures ∙ (λ i. filter (λ x. stays c.args.operator (has_item (values_of (c.as_slice-2.ensures i)) x)) (values_of (c.as_slice.ensures i))) in
    λ n h. c.in_order-all.ensures.of_tree n (subst (λ (xs : List ItemValue). OfTree n xs) (sym is)
    (of_tree-filter n (λ x. stays c.args.operator (has_item (values_of c.in_order-sorted.result) x)) (values_of c.self.inside.items) (subst (λ (xs : List Item). OfTree n (values_of xs)) same h)))
