-- A search among nodes in document order.
use Rattle.std.proofs.Common.{◌≡◌, ℕ, ◌+◌, inl, inr, ◌||◌, Result, Ok, Err, List, [], ◌∷◌, length, get_or, refl, sym, ◌∙◌, ap, arith}
use Rattle.std.specs.List.{list_any}
use Rattle.std.specs.List.Sorted.{IsStrictlySortedBy, IsSortedBy, IsSearchInRange, IsBinarySearchResult}
use Rattle.std.specs.Ordering.{eq_by_cmp, is_eq, is_lt, ordering_reverse}
use Rattle.std.specs.Result.{is_ok}
use Rattle.std.specs.declared.cmp.Ordering.{Ordering}
use Rattle.std.specs.declared.cmp.Ordering.TheVariants.{Less, Equal, Greater}
use Rattle.std.proofs.lemmas.Bool.{cases_lt}
use Rattle.std.proofs.lemmas.List.{length-map, get_or-map}
use Rattle.std.proofs.lemmas.List.Folds.{list_any_at, list_any_none}
use Rattle.std.proofs.lemmas.List.Sorted.{searchable_from_sorted}
use Rattle.std.proofs.lemmas.Map.Keys.{Less-from_sorted}
use Rattle.pj_xvalue.specs.declared.item.Item.{Item}
use Rattle.pj_xvalue.specs.declared.item.Item.TheVariants as item
use Rattle.pj_xvalue.specs.Items.{ItemValue, value_of_item, values_of}
use Rattle.pj_xaxes.specs.Order.{document_order, has_item}
use Rattle.pj_xaxes.proofs.Unique.{document_total}

turned_by : (x y : ItemValue) (r : Ordering) → document_order x y ≡ r → document_order y x ≡ ordering_reverse r
turned_by x y r is = document_total.antisymm y x ∙ ap ordering_reverse is

ascending : (items : List Item) → IsStrictlySortedBy document_order (values_of items) → IsSortedBy (λ (a b : Item). is_lt (document_order (value_of_item a) (value_of_item b))) items
ascending items up k d low high =
    let len : length (values_of items) ≡ length items = length-map items value_of_item in
    let below = Less-from_sorted document_order (values_of items) k (k + 1) (value_of_item d) up (omega arith) (omega (arith, len)) in
    let here = get_or-map value_of_item items k d (value_of_item d) (omega arith) in
    let next = get_or-map value_of_item items (k + 1) d (value_of_item d) high in
    let less : document_order (value_of_item (get_or items k d)) (value_of_item (get_or items (k + 1) d)) ≡ Less = (λ i. document_order (sym here i) (sym next i)) ∙ below in
    ap is_lt (turned_by (value_of_item (get_or items k d)) (value_of_item (get_or items (k + 1) d)) Less less)

has_item-items : (x : ItemValue) (items : List Item) → has_item (values_of items) x ≡ list_any (λ (other : Item). eq_by_cmp document_order x (value_of_item other)) items
has_item-items x [] = refl
has_item-items x (y ∷ ys) = ap (λ b. eq_by_cmp document_order x (value_of_item y) || b) (has_item-items x ys)

module _ (items : List Item) (x : ItemValue) (up : IsStrictlySortedBy document_order (values_of items)) where
  -- whether the search found one
  pub searched : (r : Result ℕ ℕ) → IsSearchInRange r (length items) → IsBinarySearchResult (λ (y : Item). document_order (value_of_item y) x) items r → is_ok r ≡ has_item (values_of items) x
  searched (Ok at) inside equal =
      sym (list_any_at (λ (other : Item). eq_by_cmp document_order x (value_of_item other)) items at item.Document inside
      (ap is_eq (turned_by (value_of_item (get_or items at item.Document)) x Equal (equal item.Document))))
      ∙ sym (has_item-items x items)
  searched (Err at) inside parted =
      let parts = parted (searchable_from_sorted document_total value_of_item items x (ascending items up)) in
      sym (list_any_none (λ (other : Item). eq_by_cmp document_order x (value_of_item other)) items (λ k d lt. elim (cases_lt k at) [
        | inl below ↦ ap is_eq (turned_by (value_of_item (get_or items k d)) x Less (parts.0 k d (omega arith) below))
        | inr above ↦ ap is_eq (turned_by (value_of_item (get_or items k d)) x Greater (parts.1 k d above lt))
      ]))
      ∙ sym (has_item-items x items)
