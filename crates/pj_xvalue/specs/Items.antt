-- Items as values of the XPath data model: an owned and a borrowed string are one value.
use Rattle.std.specs.Prelude.{ℕ, ◌<◌, ℤ, Bool, true, false, not, List, map, Option, Some, None}
use Rattle.std.specs.List.{list_all, All}
use Rattle.pj_tree.specs.declared.node.Node.{Node}
use Rattle.pj_xvalue.specs.declared.item.Item.{Item}
use Rattle.pj_xvalue.specs.declared.item.Item.TheVariants as item

-- An item (XPath 2.0, 2): the document, an element, which is a node of the tree, an attribute of a node by its
-- place, or an atomic value. A string is the list of its bytes in UTF-8.
pub data ItemValue : Type 0 where
  Document : ItemValue
  Element : Node → ItemValue
  Attribute : Node → ℕ → ItemValue
  String : List ℕ → ItemValue
  Integer : ℤ → ItemValue
  Boolean : Bool → ItemValue

-- the value of an item
abbrev pub value_of_item : Item → ItemValue
value_of_item (item.Node n) = Element n
value_of_item (item.Attribute n place) = Attribute n place
value_of_item item.Document = Document
value_of_item (item.Str text) = String text
value_of_item (item.Int z) = Integer z
value_of_item (item.Bool b) = Boolean b
value_of_item (item.Borrowed text) = String text.now

-- the values of a sequence
abbrev pub values_of : List Item → List ItemValue
values_of items = map value_of_item items

-- its bytes in UTF-8, where it is a string
abbrev pub string_in : ItemValue → Option (List ℕ)
string_in (String text) = Some text
string_in _ = None

-- whether it is a node: the document, an element or an attribute
abbrev pub is_node : ItemValue → Bool
is_node Document = true
is_node (Element n) = true
is_node (Attribute n place) = true
is_node (String text) = false
is_node (Integer z) = false
is_node (Boolean b) = false

abbrev pub is_attribute : ItemValue → Bool
is_attribute (Attribute n place) = true
is_attribute _ = false

-- ---- what is asked of the items of a sequence

-- all are nodes: the document, elements or attributes
abbrev pub are_nodes : List ItemValue → Bool
are_nodes items = list_all is_node items

-- all are atomic values
abbrev pub are_atomic : List ItemValue → Bool
are_atomic items = list_all (λ item. not (is_node item)) items

-- none is an attribute
abbrev pub have_no_attribute : List ItemValue → Bool
have_no_attribute items = list_all (λ item. not (is_attribute item)) items

-- an item of a tree with so many nodes
abbrev pub IsOfTree : ℕ → ItemValue → Type 0
IsOfTree nodes (Element n) = n.0 < nodes
IsOfTree nodes (Attribute n place) = n.0 < nodes
IsOfTree nodes _ = Unit {0}

-- all are of such a tree
abbrev pub AreOfTree : ℕ → List ItemValue → Type 0
AreOfTree nodes items = All (IsOfTree nodes) items
