use Rattle.std.proofs.Common.{◌∙◌, rules}
use Rattle.std.proofs.lemmas.Fn.{always_returns_same}
use Rattle.pj_xvalue.specs.declared.item.Item.{Item}
use Rattle.pj_xvalue.specs.Items.{value_of_item}
use Rattle.pj_xaxes.specs.Order.{document_order}
use Rattle.pj_xaxes.proofs.Searching.{searched}
use Rattle.pj_xaxes.proofs.order.is_among.Goals as goal

pub returns : goal.returns
returns c =
    let at = c.binary_search_by.ensures.position (λ (other : Item). document_order (value_of_item other) (value_of_item c.args.node.now)) (always_returns_same _ _ _ (λ a r q k. search rules)) in
    c.is_ok.ensures.value ∙ searched c.args.nodes.now (value_of_item c.args.node.now) c.requires c.binary_search_by.result c.binary_search_by.ensures.bound at
