-- The conditions on items, told item by item.
use Rattle.std.proofs.Common.{◌≡◌, not, ◌||◌, List, [], ◌∷◌, refl, ap}
use Rattle.std.specs.List.{list_all, list_any}
use Rattle.std.proofs.lemmas.List.Folds.{list_all-map}
use Rattle.pj_xvalue.specs.declared.item.Item.{Item}
use Rattle.pj_xvalue.specs.Atomic.{has_node}
use Rattle.pj_xvalue.specs.Items.{value_of_item, values_of, is_node, is_attribute, are_nodes, have_no_attribute}

pub are_nodes-items : (items : List Item) → are_nodes (values_of items) ≡ list_all (λ item. is_node (value_of_item item)) items
are_nodes-items items = list_all-map is_node value_of_item items

pub have_no_attribute-items : (items : List Item) → have_no_attribute (values_of items) ≡ list_all (λ item. not (is_attribute (value_of_item item))) items
have_no_attribute-items items = list_all-map (λ value. not (is_attribute value)) value_of_item items

pub has_node-items : (items : List Item) → has_node (values_of items) ≡ list_any (λ item. is_node (value_of_item item)) items
has_node-items [] = refl
has_node-items (x ∷ xs) = ap (λ b. is_node (value_of_item x) || b) (has_node-items xs)
