use Rattle.std.proofs.Common.{◌≡◌, ◌∙◌, List, IfOk, ap, flat_map, subst}
use Rattle.pj_tree.specs.declared.node.Node.{Node}
use Rattle.pj_xvalue.specs.Items.{values_of}
use Rattle.pj_findings.specs.Denoted.{element_in}
use Rattle.pj_findings.proofs.Elements.{elements_are_nodes, elements_of_values}
use Rattle.pj_findings.proofs.denoted.nodes_in_order.Goals as goal

pub in_order-ordered-requires : goal.in_order-ordered-requires
in_order-ordered-requires c = elements_are_nodes (values_of c.args.items) c.requires

pub returns : goal.returns
returns c =
    subst (λ (l : List Node). IfOk c.elements_in.result (λ nodes. nodes ≡ l))
    (elements_of_values c.as_slice.result.now ∙ ap (λ xs. flat_map element_in (values_of xs)) c.as_slice.ensures ∙ ap (flat_map element_in) c.in_order-ordered.ensures.value)
    c.elements_in.ensures
