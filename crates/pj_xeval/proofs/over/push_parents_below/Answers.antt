use Rattle.std.proofs.Common.{◌++◌, ◌+◌, ◌-◌, ◌<◌, length, sym, subst, List}
use Rattle.pj_xexpressions.specs.declared.axis.Axis.TheVariants.{DescendantOrSelf}
use Rattle.pj_xexpressions.specs.declared.expr.NodeTest.TheVariants.{AnyNode}
use Rattle.pj_xvalue.specs.declared.item.Item.{Item}
use Rattle.pj_xvalue.specs.Items.{ItemValue, Document, Element, value_of_item, values_of}
use Rattle.pj_xeval.specs.Over.{AreParents, items_above, stepped_at}
use Rattle.pj_xeval.proofs.Parents.{document-parents, element-parents, joined-parents}
use Rattle.pj_xeval.proofs.over.push_parents_below.Goals as goal

pub returns-in_ok-push_items_above-in-Node : goal.returns-in_ok-push_items_above-in-Node
returns-in_ok-push_items_above-in-Node c = λ below h.
    let t = c.args.tree.now in
    let test = c.args.test.now in
    let n = c.in-Node.n in
    let end = c.subtree_end-end.result.0 in
    let inside : n.0 < length t.nodes = rw c.in-Node.is at c.requires in
    subst (λ (x : Item). AreParents t test (below ++ stepped_at t DescendantOrSelf AnyNode (value_of_item x)) (values_of c.push_items_above.new.found)) (sym c.in-Node.is)
    (subst (λ (ps : List ItemValue). AreParents t test (below ++ stepped_at t DescendantOrSelf AnyNode (Element n)) ps) (sym c.in_ok-push_items_above-in-Node.ensures)
    (joined-parents t test below (stepped_at t DescendantOrSelf AnyNode (Element n)) (values_of c.args.found.now) (items_above t test (n.0 + 1) (end - (n.0 + 1))) h
    (element-parents t c.len-count.ensures.tree test n end inside c.subtree_end-end.ensures.within c.subtree_end-end.ensures.descendants)))

pub returns-in_ok-push_items_above-in-Document : goal.returns-in_ok-push_items_above-in-Document
returns-in_ok-push_items_above-in-Document c = λ below h.
    let t = c.args.tree.now in
    let test = c.args.test.now in
    let end = c.subtree_end-end-in-Document.result.0 in
    subst (λ (x : Item). AreParents t test (below ++ stepped_at t DescendantOrSelf AnyNode (value_of_item x)) (values_of c.push_items_above-in-Document.new.found)) (sym c.in-Document.is)
    (subst (λ (ps : List ItemValue). AreParents t test (below ++ stepped_at t DescendantOrSelf AnyNode Document) ps) (sym c.in_ok-push_items_above-in-Document.ensures)
    (joined-parents t test below (stepped_at t DescendantOrSelf AnyNode Document) (values_of c.args.found.now) (items_above t test 0 (end - 0)) h
    (document-parents t c.len-count.ensures.tree test end c.subtree_end-end-in-Document.ensures.within c.subtree_end-end-in-Document.ensures.descendants c.subtree_end-end-in-Document.ensures.past)))
