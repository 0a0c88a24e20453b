-- Steps over many items.
use Rattle.std.specs.Prelude.{◌≡◌, ℕ, Bool, true, false, not, ◌&&◌, ◌||◌, IsTrue, List, [], ◌∷◌, filter, flat_map, map}
use Rattle.std.specs.List.{range_with_len}
use Rattle.std.specs.Option.{option_map_or}
use Rattle.pj_tree.specs.declared.node.Node.{Node}
use Rattle.pj_tree.specs.Tree.{Tree, parent_of}
use Rattle.pj_xexpressions.specs.declared.axis.Axis.{Axis}
use Rattle.pj_xexpressions.specs.declared.axis.Axis.TheVariants as axis
use Rattle.pj_xexpressions.specs.declared.expr.NodeTest.{NodeTest}
use Rattle.pj_xvalue.specs.Items.{ItemValue, Document, Element, is_node, are_nodes}
use Rattle.pj_xaxes.specs.Axes.{is_reverse, node}
use Rattle.pj_xaxes.specs.Order.{has_item}
use Rattle.pj_xsteps.specs.Steps.{passes, stepped, in_document_order}

-- what a step without predicates gives at a node, in document order
abbrev pub stepped_at : Tree → Axis → NodeTest → ItemValue → List ItemValue
stepped_at t axis test item = in_document_order (is_reverse axis) (stepped t axis test item)

-- at each of some nodes, as it comes
abbrev pub stepped_at_each : Tree → Axis → NodeTest → List ItemValue → List ItemValue
stepped_at_each t axis test items = flat_map (stepped_at t axis test) items

abbrev pub has_some : List ItemValue → Bool
has_some [] = false
has_some (item ∷ items) = true

-- whether a step along `child` finds something at the item, or is an error there: what is no node has no steps
abbrev pub may_go_down : Tree → NodeTest → ItemValue → Bool
may_go_down t test item = not (is_node item) || has_some (stepped t axis.Child test item)

-- ---- the parents of what is below items

-- the item above a node: its parent, and above the root the document
abbrev pub above : Tree → Node → ItemValue
above t m = option_map_or (λ p. Element p) (parent_of t m) Document

-- the items above those of so many nodes, from one number on, that pass
abbrev pub items_above : Tree → NodeTest → ℕ → ℕ → List ItemValue
items_above t test low count = map (above t) (filter (λ m. passes t test (Element m)) (map node (range_with_len low count)))

-- whether the item has a child that passes
abbrev pub above_some : Tree → NodeTest → ItemValue → Bool
above_some t test item = has_some (stepped t axis.Child test item)

-- of what is at or below some items, as often as it comes, the parents of what passes
pub record AreParents (t : Tree) (test : NodeTest) (below parents : List ItemValue) : Type 0 where
  pub nodes : IsTrue (are_nodes parents)
  pub members : (x : ItemValue) → is_node x ≡ true → has_item parents x ≡ (above_some t test x && has_item below x)
