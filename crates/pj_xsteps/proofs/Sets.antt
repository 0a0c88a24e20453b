-- Sets of nodes.
use Rattle.std.proofs.Common.{◌≡◌, ℕ, ◌+◌, ◌<◌, ◌++◌, ◌&&◌, Bool, true, false, cond, List, [], ◌∷◌, IsTrue, filter, take, length, get_or, refl, ap, ◌∙◌}
use Rattle.std.specs.List.{AllByRecursion}
use Rattle.std.proofs.lemmas.List.Elements.{filter-append}
use Rattle.pj_xexpressions.specs.declared.operator.SetOperator.{SetOperator}
use Rattle.pj_xvalue.specs.declared.item.Item.{Item}
use Rattle.pj_xvalue.specs.Items.{ItemValue, are_nodes, value_of_item, values_of}
use Rattle.pj_xaxes.specs.Order.{has_item, ordered}
use Rattle.pj_xaxes.proofs.Ordered.{has_item-ordered, places-ordered, places_from, IsNode}
use Rattle.pj_xsteps.specs.Sets.{stays, chosen}
use Rattle.pj_xsteps.proofs.Values.{values_more}

are_from : (xs : List ItemValue) → AllByRecursion IsNode xs → IsTrue (are_nodes xs)
are_from [] h = refl
are_from (x ∷ xs) h = ap (λ b. b && are_nodes xs) h.0 ∙ are_from xs h.1

filter-places : (p : ItemValue → Bool) (xs : List ItemValue) → AllByRecursion IsNode xs → AllByRecursion IsNode (filter p xs)
filter-places p [] h = tt
filter-places p (x ∷ xs) h = elim (p x) as (λ b. AllByRecursion IsNode (cond b (x ∷ filter p xs) (filter p xs))) [
  | true ↦ (h.0, filter-places p xs h.1)
  | false ↦ filter-places p xs h.1
]

pub are_nodes-filter : (p : ItemValue → Bool) (xs : List ItemValue) → IsTrue (are_nodes xs) → IsTrue (are_nodes (filter p xs))
are_nodes-filter p xs h = are_from (filter p xs) (filter-places p xs (places_from xs h))

pub are_nodes-ordered : (xs : List ItemValue) → IsTrue (are_nodes xs) → IsTrue (are_nodes (ordered xs))
are_nodes-ordered xs h = are_from (ordered xs) (places-ordered xs (places_from xs h))

-- it is the same whether the others are in order
pub chosen-ordered : (operator : SetOperator) (xs ys : List ItemValue) → ordered (filter (λ x. stays operator (has_item (ordered ys) x)) xs) ≡ chosen operator xs ys
chosen-ordered operator xs ys = λ i. ordered (filter (λ x. stays operator (has_item-ordered ys x i)) xs)

-- one more item
pub filter_taken : (p : ItemValue → Bool) (items : List Item) (i : ℕ) (x : Item) → i < length items → x ≡ get_or items i x
    → filter p (values_of (take (i + 1) items)) ≡ filter p (values_of (take i items)) ++ filter p (value_of_item x ∷ [])
filter_taken p items i x lt is = ap (filter p) (values_more items i x lt is) ∙ filter-append p (values_of (take i items)) (value_of_item x ∷ [])
