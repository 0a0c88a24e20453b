use Rattle.std.proofs.Common.{sym, subst, ◌∙◌, ap}
use Rattle.std.specs.List.Sorted.{IsStrictlySortedBy}
use Rattle.pj_xvalue.specs.Items.{values_of}
use Rattle.pj_xvalue.specs.OfTree.{OfTree}
use Rattle.pj_xaxes.specs.Order.{document_order, has_item}
use Rattle.pj_xaxes.proofs.Inside.{of_tree-ordered}
use Rattle.pj_xaxes.proofs.Ordered.{ordered-ascending, sorted-ordered, has_item-ordered}
use Rattle.pj_xaxes.proofs.order.in_order.Goals as goal

pub returns-then-is_ascending-clause-value : goal.returns-then-is_ascending-clause-value
returns-then-is_ascending-clause-value c =
    let up = subst (λ l. IsStrictlySortedBy document_order (values_of l)) c.as_slice.ensures (c.is_ascending.ensures c.if-is_ascending.true) in
    sym (ordered-ascending (values_of c.args.items) c.requires up)

pub returns-then-is_ascending-clause-ascending : goal.returns-then-is_ascending-clause-ascending
returns-then-is_ascending-clause-ascending c = subst (λ l. IsStrictlySortedBy document_order (values_of l)) c.as_slice.ensures (c.is_ascending.ensures c.if-is_ascending.true)

pub returns-else-is_ascending-clause-ascending : goal.returns-else-is_ascending-clause-ascending
returns-else-is_ascending-clause-ascending c = subst (λ xs. IsStrictlySortedBy document_order xs) (sym c.sort_nodes.ensures) (sorted-ordered (values_of c.args.items))

pub returns-else-is_ascending-clause-members : goal.returns-else-is_ascending-clause-members
returns-else-is_ascending-clause-members c = λ x. ap (λ xs. has_item xs x) c.sort_nodes.ensures ∙ has_item-ordered (values_of c.args.items) x

pub returns-else-is_ascending-clause-of_tree : goal.returns-else-is_ascending-clause-of_tree
returns-else-is_ascending-clause-of_tree c = λ n h. subst (λ xs. OfTree n xs) (sym c.sort_nodes.ensures) (of_tree-ordered n (values_of c.args.items) h)
