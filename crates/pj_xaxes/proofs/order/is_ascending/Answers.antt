use Rattle.std.proofs.Common.{◌≡◌, Bool, rules, subst}
use Rattle.std.specs.List.{IsAllAdjacentAnswer}
use Rattle.std.specs.Ordering.{is_lt}
use Rattle.std.proofs.lemmas.Fn.{always_returns_same}
use Rattle.pj_xvalue.specs.declared.item.Item.{Item}
use Rattle.pj_xvalue.specs.Items.{value_of_item}
use Rattle.pj_xaxes.specs.Order.{document_order}
use Rattle.pj_xaxes.proofs.Ordered.{ascending-from_adjacent}
use Rattle.pj_xaxes.proofs.order.is_ascending.Goals as goal

pub returns : goal.returns
returns c = λ is.
    let each = c.is_sorted_by.ensures.cases (λ (x y : Item). is_lt (document_order (value_of_item x) (value_of_item y))) (always_returns_same _ _ _ (λ a r q k. search rules)) in
    ascending-from_adjacent c.args.items.now (subst (λ (b : Bool). IsAllAdjacentAnswer (λ x y q. q ≡ is_lt (document_order (value_of_item x) (value_of_item y))) c.args.items.now b) is each)
