-- Axis steps and attribute steps (XPath 2.0, 3.2.1).
use Rattle.std.specs.Prelude.{ℕ, Bool, true, false, ◌&&◌, ◌==◌, List, [], ◌∷◌, ◌++◌, map, filter, Option, Some, None, reverse, if◌then◌else◌, nat_eq}
use Rattle.std.specs.List.{enumerate_from}
use Rattle.std.specs.Cmp.Lexicographic.{pointwise}
use Rattle.pj_tree.specs.declared.node.Node.{Node}
use Rattle.pj_tree.specs.declared.kind.Kind.{Kind}
use Rattle.pj_tree.specs.Tree.{Tree, kind_of}
use Rattle.pj_tree.specs.Kind.{name_of}
use Rattle.pj_xexpressions.specs.declared.axis.Axis.{Axis}
use Rattle.pj_xexpressions.specs.declared.axis.Axis.TheVariants as axis
use Rattle.pj_xexpressions.specs.declared.expr.NodeTest.{NodeTest}
use Rattle.pj_xexpressions.specs.declared.expr.NodeTest.TheVariants as test
use Rattle.pj_xvalue.specs.declared.fault.XCode.TheVariants.{XPTY0020}
use Rattle.pj_xvalue.specs.Items.{ItemValue, Document, Element, Attribute, is_node}
use Rattle.pj_xaxes.specs.Axes.{axis_nodes, node}
use Rattle.pj_xsteps.specs.Means.{Means, fail}
use Rattle.pj_xsteps.specs.Context.{Around}

abbrev pub elements : List Node → List ItemValue
elements nodes = map (λ n. Element n) nodes

abbrev pub root : Node
root = node 0

-- where the document stands on the axes of elements: it is the root's parent, and an ancestor of all
abbrev pub document_behind : Axis → Node → List ItemValue
document_behind axis.Parent n = if n.0 == 0 then Document ∷ [] else []
document_behind axis.Ancestor n = Document ∷ []
document_behind axis.AncestorOrSelf n = Document ∷ []
document_behind _ n = []

-- the axis of an element, in axis order
abbrev pub of_element : Tree → Axis → Node → List ItemValue
of_element t axis n = elements (axis_nodes t axis n) ++ document_behind axis n

-- of the document: its child is the root, and all elements are its descendants
abbrev pub of_document : Tree → Axis → List ItemValue
of_document t axis.Child = Element root ∷ []
of_document t axis.Descendant = elements (axis_nodes t axis.DescendantOrSelf root)
of_document t axis.SelfNode = Document ∷ []
of_document t axis.DescendantOrSelf = Document ∷ elements (axis_nodes t axis.DescendantOrSelf root)
of_document t axis.AncestorOrSelf = Document ∷ []
of_document t _ = []

-- Of an attribute: its parent is its element. It is before what is below its element, and has no children and no siblings.
abbrev pub of_attribute : Tree → Axis → Node → ℕ → List ItemValue
of_attribute t axis.Child n place = []
of_attribute t axis.Descendant n place = []
of_attribute t axis.SelfNode n place = Attribute n place ∷ []
of_attribute t axis.DescendantOrSelf n place = Attribute n place ∷ []
of_attribute t axis.FollowingSibling n place = []
of_attribute t axis.Following n place = of_element t axis.Descendant n ++ of_element t axis.Following n
of_attribute t axis.Parent n place = Element n ∷ []
of_attribute t axis.Ancestor n place = of_element t axis.AncestorOrSelf n
of_attribute t axis.PrecedingSibling n place = []
of_attribute t axis.Preceding n place = of_element t axis.Preceding n
of_attribute t axis.AncestorOrSelf n place = Attribute n place ∷ of_element t axis.AncestorOrSelf n

-- the axis of an item, in axis order; an atomic value has none
abbrev pub axis_items : Tree → Axis → ItemValue → List ItemValue
axis_items t axis (Element n) = of_element t axis n
axis_items t axis Document = of_document t axis
axis_items t axis (Attribute n place) = of_attribute t axis n place
axis_items t axis _ = []

abbrev pub has_kind_name : List ℕ → Option Kind → Bool
has_kind_name name (Some kind) = pointwise nat_eq (name_of kind) name
has_kind_name name None = false

-- whether an item of an axis of nodes passes the test: a name, `*` and `element()` take elements alone
abbrev pub passes : Tree → NodeTest → ItemValue → Bool
passes t (test.Name name) (Element n) = has_kind_name name (kind_of t n)
passes t (test.Name name) _ = false
passes t test.AnyName (Element n) = true
passes t test.AnyName _ = false
passes t test.AnyNode _ = true
passes t test.AnyElement (Element n) = true
passes t test.AnyElement _ = false

-- the items of an axis that pass the test, in axis order
abbrev pub stepped : Tree → Axis → NodeTest → ItemValue → List ItemValue
stepped t axis test item = filter (passes t test) (axis_items t axis item)

-- from axis order to document order
abbrev pub in_document_order : Bool → List ItemValue → List ItemValue
in_document_order backwards items = if backwards then reverse items else items

-- whether an attribute of this name passes the test
abbrev pub passes_name : NodeTest → List ℕ → Bool
passes_name (test.Name wanted) name = pointwise nat_eq name wanted
passes_name test.AnyName name = true
passes_name test.AnyNode name = true
passes_name test.AnyElement name = false

abbrev pub has_value : Option ItemValue → Bool
has_value (Some value) = true
has_value None = false

-- of a node's names with their places, the attributes that pass the test and have a value
abbrev pub named_attributes : (List ℕ → Option ItemValue) → NodeTest → Node → List (ℕ × List ℕ) → List ItemValue
named_attributes value_of test n places = map (λ p. Attribute n p.0) (filter (λ p. passes_name test p.1 && has_value (value_of p.1)) places)

-- the attributes of a node that pass the test
abbrev pub attributes_of : Around → NodeTest → Node → List ItemValue
attributes_of around test n = named_attributes (around.attribute_of n) test n (enumerate_from 0 (around.names_of n))

-- only elements have attributes
abbrev pub attributes : Around → NodeTest → ItemValue → List ItemValue
attributes around test (Element n) = attributes_of around test n
attributes around test _ = []

-- what is from a context item that is a node
abbrev pub from_node : {A : Type 0} → ItemValue → Means A → Means A
from_node item meaning = if is_node item then meaning else fail XPTY0020
