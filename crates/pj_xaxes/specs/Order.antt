-- Document order (XPath 2.0, 2.4.1): the document, then each node, its attributes, and its children. So nodes stand in
-- the order of their numbers, and a node's attributes stand behind it in their order.
use Rattle.std.specs.Prelude.{ℕ, Bool, List, [], ◌∷◌, Option, Some, None}
use Rattle.std.specs.List.{list_any}
use Rattle.std.specs.Ordering.{nat_cmp, then_cmp, on, eq_by_cmp}
use Rattle.std.specs.Option.{option_cmp}
use Rattle.std.specs.declared.cmp.Ordering.{Ordering}
use Rattle.std.specs.declared.cmp.Ordering.TheVariants.{Less, Equal, Greater}
use Rattle.pj_xvalue.specs.Items.{ItemValue, Element, Attribute}

-- where an item stands: the number of its node, which the document has none of, and the place of its attribute, which
-- only an attribute has; an atomic value has none, and is never asked
abbrev pub position_of : ItemValue → Option ℕ × Option ℕ
position_of (Element n) = (Some n.0, None)
position_of (Attribute n place) = (Some n.0, Some place)
position_of _ = (None, None)

-- what is without a number stands first, and what is without a place
abbrev pub position_order : Option ℕ × Option ℕ → Option ℕ × Option ℕ → Ordering
position_order = then_cmp (on (λ (p : Option ℕ × Option ℕ). p.0) (option_cmp nat_cmp)) (on (λ (p : Option ℕ × Option ℕ). p.1) (option_cmp nat_cmp))

abbrev pub document_order : ItemValue → ItemValue → Ordering
document_order = on position_of position_order

-- an item into an ordered list: where it stands in the list already, the list stays
abbrev pub put_by : Ordering → ItemValue → ItemValue → List ItemValue → List ItemValue → List ItemValue
put_by Less x y ys rest = x ∷ y ∷ ys
put_by Equal x y ys rest = y ∷ ys
put_by Greater x y ys rest = y ∷ rest

abbrev pub put : ItemValue → List ItemValue → List ItemValue
put x [] = x ∷ []
put x (y ∷ ys) = put_by (document_order x y) x y ys (put x ys)

-- the items in document order, each once
unfoldable pub ordered : List ItemValue → List ItemValue
ordered [] = []
ordered (x ∷ xs) = put x (ordered xs)

-- whether the item is one of them
abbrev pub has_item : List ItemValue → ItemValue → Bool
has_item xs x = list_any (eq_by_cmp document_order x) xs
