use Rattle.std.proofs.Common.{◌∙◌, ap, List, rules}
use Rattle.std.proofs.lemmas.Fn.{always_returns_same, dedup_same}
use Rattle.std.specs.Ordering.{eq_by_cmp}
use Rattle.pj_xvalue.specs.declared.item.Item.{Item}
use Rattle.pj_xvalue.specs.Items.{value_of_item, values_of, are_nodes}
use Rattle.pj_xaxes.specs.Order.{position_of, document_order, ordered}
use Rattle.pj_xaxes.specs.Standing.{standing}
use Rattle.pj_xaxes.proofs.Ordered.{in_order-is}
use Rattle.pj_xaxes.proofs.order.sort_nodes.Goals as goal

pub returns : goal.returns
returns c =
    let into = c.into_vec-held.ensures in
    let up = c.sort_unstable_by_key.ensures.sorted (λ (i : Item). standing (position_of (value_of_item i))) (always_returns_same _ _ _ (λ a r q k. search rules)) in
    let one = dedup_same _ (λ (x k : Item). eq_by_cmp document_order (value_of_item x) (value_of_item k)) _ (λ x y b f' x' y' k. search rules) _ _ c.dedup_by.ensures.filtered in
    ap values_of c.from_vec.ensures
    ∙ in_order-is c.into_vec-held.result.items c.sort_unstable_by_key.new.self.items c.dedup_by.new.self.items c.sort_unstable_by_key.ensures.permutation up one
    (ap (λ (xs : List Item). are_nodes (values_of xs)) into ∙ c.requires)
    ∙ ap (λ (xs : List Item). ordered (values_of xs)) into
