-- Which nodes of a tree a rule finds, by the items that its query gives.
use Rattle.std.specs.Prelude.{Bool, true, false, List, [], ◌∷◌, flat_map, Result, Ok, Err, if◌then◌else◌}
use Rattle.std.specs.List.{list_all}
use Rattle.pj_tree.specs.declared.node.Node.{Node}
use Rattle.pj_xaxes.specs.Order.{ordered}
use Rattle.pj_xvalue.specs.Items.{ItemValue, Element}
use Rattle.pj_xvalue.specs.declared.fault.XCode.{XCode}
use Rattle.pj_xvalue.specs.declared.fault.XCode.TheVariants.{XPTY0004}

-- the node of the tree that an item is, if it is one
abbrev pub element_in : ItemValue → List Node
element_in (Element n) = n ∷ []
element_in _ = []

abbrev pub is_element : ItemValue → Bool
is_element (Element n) = true
is_element _ = false

-- The nodes that a query finds, in the order of their numbers, each once. An attribute, the document or an atomic value among
-- the items is an error of type.
abbrev pub denoted : List ItemValue → Result (List Node) XCode
denoted items = if list_all is_element items then Ok (flat_map element_in (ordered items)) else Err XPTY0004
