use Rattle.std.proofs.Common.{◌≡◌, filter, length, take, sym, subst, ◌∙◌, arith, List}
use Rattle.std.proofs.lemmas.List.{take_all}
use Rattle.pj_xexpressions.specs.declared.axis.Axis.TheVariants.{DescendantOrSelf}
use Rattle.pj_xexpressions.specs.declared.expr.NodeTest.TheVariants.{AnyNode}
use Rattle.pj_xvalue.specs.declared.item.Item.{Item}
use Rattle.pj_xvalue.specs.Items.{ItemValue, values_of}
use Rattle.pj_xvalue.specs.OfTree.{OfTree}
use Rattle.pj_xvalue.proofs.OfTreeLaws.{of_tree-at}
use Rattle.pj_xaxes.specs.Order.{ordered}
use Rattle.pj_xaxes.proofs.Inside.{of_tree-ordered}
use Rattle.pj_xsteps.proofs.OfTree.{of_tree-filter}
use Rattle.pj_xeval.specs.Over.{AreParents, may_go_down, stepped_at_each}
use Rattle.pj_xeval.proofs.ManySteps.{each_more, each-step-of_tree}
use Rattle.pj_xeval.proofs.Parents.{below-are_nodes, ordered-parents}
use Rattle.pj_xeval.proofs.over.parents_below.Goals as goal

pub push_parents_below-requires : goal.push_parents_below-requires
push_parents_below-requires c = of_tree-at (length c.args.tree.now.nodes) c.args.items.now c.loop-item.item-index c.item-item.result (omega arith) c.item-item.is c.requires

pub loop-item-preserved : goal.loop-item-preserved
loop-item-preserved c =
    let t = c.args.tree.now in
    subst (λ (below : List ItemValue). AreParents t c.args.test.now below (values_of c.push_parents_below.new.found))
    (sym (each_more t DescendantOrSelf AnyNode c.args.items.now c.loop-item.item-index c.item-item.result (omega arith) c.item-item.is))
    (c.in_ok-push_parents_below.ensures (stepped_at_each t DescendantOrSelf AnyNode (values_of (take c.loop-item.item-index c.args.items.now))) c.loop-item.invariant)

found_value : (c : goal.After-in_order) → values_of c.in_order.result ≡ filter (may_go_down c.args.tree.now c.args.test.now) (ordered (stepped_at_each c.args.tree.now DescendantOrSelf AnyNode (values_of c.args.items.now)))
found_value c =
    let t = c.args.tree.now in
    let all = stepped_at_each t DescendantOrSelf AnyNode (values_of c.args.items.now) in
    let parents = subst (λ (xs : List Item). AreParents t c.args.test.now (stepped_at_each t DescendantOrSelf AnyNode (values_of xs)) (values_of c.loop-item.found)) (take_all c.loop-item.item-index c.args.items.now (omega arith)) c.loop-item.invariant in
    c.in_order.ensures.value ∙ ordered-parents t c.args.test.now all (values_of c.loop-item.found) parents (below-are_nodes t (values_of c.args.items.now))

pub in_order-requires : goal.in_order-requires
in_order-requires c = c.loop-item.invariant.nodes

pub returns-clause-value : goal.returns-clause-value
returns-clause-value c = found_value c

pub returns-clause-of_tree : goal.returns-clause-of_tree
returns-clause-of_tree c =
    let t = c.args.tree.now in
    let all = stepped_at_each t DescendantOrSelf AnyNode (values_of c.args.items.now) in
    subst (λ (xs : List ItemValue). OfTree (length t.nodes) xs) (sym (found_value c))
    (of_tree-filter (length t.nodes) (may_go_down t c.args.test.now) (ordered all) (of_tree-ordered (length t.nodes) all (each-step-of_tree t DescendantOrSelf AnyNode (values_of c.args.items.now) c.len-count.ensures.tree.some c.requires)))
