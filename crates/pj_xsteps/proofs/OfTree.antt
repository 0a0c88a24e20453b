-- What is of the tree.
use Rattle.std.proofs.Common.{◌≡◌, ℕ, ◌-◌, ◌<◌, ◌&&◌, Bool, true, false, List, [], ◌∷◌, length, map, take, drop, get_or, reverse, filter, ◌==◌, sym, ap, ◌∙◌, subst, arith, if◌then◌else◌}
use Rattle.std.specs.List.{All, enumerate_from}
use Rattle.std.proofs.lemmas.List.Elements.{All-filter, All-map}
use Rattle.std.proofs.lemmas.List.{get_or-reverse, length-reverse, get_or-map, length-map, take_rest}
use Rattle.pj_tree.specs.declared.node.Node.{Node}
use Rattle.pj_tree.specs.Tree.{Tree}
use Rattle.pj_xexpressions.specs.declared.axis.Axis.{Axis}
use Rattle.pj_xexpressions.specs.declared.axis.Axis.TheVariants as axis
use Rattle.pj_xexpressions.specs.declared.expr.NodeTest.{NodeTest}
use Rattle.pj_xvalue.specs.Items.{ItemValue, Document, Element, Attribute, String, Integer, Boolean, IsOfTree, AreOfTree, values_of}
use Rattle.pj_xvalue.specs.declared.item.Item.{Item}
use Rattle.pj_xvalue.specs.OfTree.{OfTree, ArgumentsOfTree}
use Rattle.pj_xvalue.proofs.OfTreeLaws.{of_tree-nil, of_tree-one, of_tree-cons, of_tree-append, arguments-tail}
use Rattle.pj_xaxes.specs.Axes.{axis_nodes}
use Rattle.pj_xaxes.proofs.Inside.{axis-inside}
use Rattle.pj_xsteps.specs.Context.{Around}
use Rattle.pj_xsteps.specs.Steps.{elements, root, document_behind, of_element, of_document, of_attribute, axis_items, passes, stepped, passes_name, has_value, attributes}

-- the items from the last to the first
pub of_tree-reverse : (n : ℕ) (xs : List ItemValue) → OfTree n xs → OfTree n (reverse xs)
of_tree-reverse n xs h = record {
  each = λ i d lt.
      let at : i < length xs = subst (λ k. i < k) (length-reverse xs) lt in
      subst (IsOfTree n) (sym (get_or-reverse xs i d at)) (h.each (length xs - 1 - i) d (omega arith));
}

pub of_tree-filter : (n : ℕ) (p : ItemValue → Bool) (xs : List ItemValue) → OfTree n xs → OfTree n (filter p xs)
of_tree-filter n p xs h = record { each = All-filter p (IsOfTree n) xs h.each }

of_elements : (n : ℕ) (ms : List Node) → All (λ m. m.0 < n) ms → OfTree n (elements ms)
of_elements n ms h = record { each = All-map (IsOfTree n) (λ m. Element m) ms h }

axis-elements : (t : Tree) (a : Axis) (m : Node) → OfTree (length t.nodes) (elements (axis_nodes t a m))
axis-elements t a m = of_elements (length t.nodes) (axis_nodes t a m) (axis-inside t a m)

of_behind : (n : ℕ) (a : Axis) (m : Node) → OfTree n (document_behind a m)
of_behind n axis.Child m = of_tree-nil n
of_behind n axis.Descendant m = of_tree-nil n
of_behind n axis.SelfNode m = of_tree-nil n
of_behind n axis.DescendantOrSelf m = of_tree-nil n
of_behind n axis.FollowingSibling m = of_tree-nil n
of_behind n axis.Following m = of_tree-nil n
of_behind n axis.Parent m = elim (m.0 == 0) as (λ b. OfTree n (if b then Document ∷ [] else [])) [
  | true ↦ of_tree-one n Document tt
  | false ↦ of_tree-nil n
]
of_behind n axis.Ancestor m = of_tree-one n Document tt
of_behind n axis.PrecedingSibling m = of_tree-nil n
of_behind n axis.Preceding m = of_tree-nil n
of_behind n axis.AncestorOrSelf m = of_tree-one n Document tt

element-of_tree : (t : Tree) (a : Axis) (m : Node) → OfTree (length t.nodes) (of_element t a m)
element-of_tree t a m = of_tree-append (length t.nodes) (elements (axis_nodes t a m)) (document_behind a m) (axis-elements t a m) (of_behind (length t.nodes) a m)

document-of_tree : (t : Tree) (a : Axis) → 0 < length t.nodes → OfTree (length t.nodes) (of_document t a)
document-of_tree t axis.Child rooted = of_tree-one (length t.nodes) (Element root) rooted
document-of_tree t axis.Descendant rooted = axis-elements t axis.DescendantOrSelf root
document-of_tree t axis.SelfNode rooted = of_tree-one (length t.nodes) Document tt
document-of_tree t axis.DescendantOrSelf rooted = of_tree-cons (length t.nodes) Document (elements (axis_nodes t axis.DescendantOrSelf root)) tt (axis-elements t axis.DescendantOrSelf root)
document-of_tree t axis.FollowingSibling rooted = of_tree-nil (length t.nodes)
document-of_tree t axis.Following rooted = of_tree-nil (length t.nodes)
document-of_tree t axis.Parent rooted = of_tree-nil (length t.nodes)
document-of_tree t axis.Ancestor rooted = of_tree-nil (length t.nodes)
document-of_tree t axis.PrecedingSibling rooted = of_tree-nil (length t.nodes)
document-of_tree t axis.Preceding rooted = of_tree-nil (length t.nodes)
document-of_tree t axis.AncestorOrSelf rooted = of_tree-one (length t.nodes) Document tt

attribute-of_tree : (t : Tree) (a : Axis) (m : Node) (place : ℕ) → m.0 < length t.nodes → OfTree (length t.nodes) (of_attribute t a m place)
attribute-of_tree t axis.Child m place inside = of_tree-nil (length t.nodes)
attribute-of_tree t axis.Descendant m place inside = of_tree-nil (length t.nodes)
attribute-of_tree t axis.SelfNode m place inside = of_tree-one (length t.nodes) (Attribute m place) inside
attribute-of_tree t axis.DescendantOrSelf m place inside = of_tree-one (length t.nodes) (Attribute m place) inside
attribute-of_tree t axis.FollowingSibling m place inside = of_tree-nil (length t.nodes)
attribute-of_tree t axis.Following m place inside = of_tree-append (length t.nodes) (of_element t axis.Descendant m) (of_element t axis.Following m) (element-of_tree t axis.Descendant m) (element-of_tree t axis.Following m)
attribute-of_tree t axis.Parent m place inside = of_tree-one (length t.nodes) (Element m) inside
attribute-of_tree t axis.Ancestor m place inside = element-of_tree t axis.AncestorOrSelf m
attribute-of_tree t axis.PrecedingSibling m place inside = of_tree-nil (length t.nodes)
attribute-of_tree t axis.Preceding m place inside = element-of_tree t axis.Preceding m
attribute-of_tree t axis.AncestorOrSelf m place inside = of_tree-cons (length t.nodes) (Attribute m place) (of_element t axis.AncestorOrSelf m) inside (element-of_tree t axis.AncestorOrSelf m)

axis-of_tree : (t : Tree) (a : Axis) (item : ItemValue) → 0 < length t.nodes → IsOfTree (length t.nodes) item → OfTree (length t.nodes) (axis_items t a item)
axis-of_tree t a Document rooted h = document-of_tree t a rooted
axis-of_tree t a (Element m) rooted h = element-of_tree t a m
axis-of_tree t a (Attribute m place) rooted h = attribute-of_tree t a m place h
axis-of_tree t a (String text) rooted h = of_tree-nil (length t.nodes)
axis-of_tree t a (Integer z) rooted h = of_tree-nil (length t.nodes)
axis-of_tree t a (Boolean b) rooted h = of_tree-nil (length t.nodes)

pub stepped-of_tree : (t : Tree) (a : Axis) (test : NodeTest) (item : ItemValue) → 0 < length t.nodes → IsOfTree (length t.nodes) item → OfTree (length t.nodes) (stepped t a test item)
stepped-of_tree t a test item rooted h = of_tree-filter (length t.nodes) (passes t test) (axis_items t a item) (axis-of_tree t a item rooted h)

each_attribute : (n : ℕ) (m : Node) (ps : List (ℕ × List ℕ)) → m.0 < n → OfTree n (map (λ p. Attribute m p.0) ps)
each_attribute n m [] inside = of_tree-nil n
each_attribute n m (p ∷ ps) inside = of_tree-cons n (Attribute m p.0) (map (λ q. Attribute m q.0) ps) inside (each_attribute n m ps inside)

pub attributes-of_tree : (a : Around) (test : NodeTest) (n : ℕ) (item : ItemValue) → IsOfTree n item → OfTree n (attributes a test item)
attributes-of_tree a test n Document h = of_tree-nil n
attributes-of_tree a test n (Element m) h = each_attribute n m (filter (λ p. passes_name test p.1 && has_value (a.attribute_of m p.1)) (enumerate_from 0 (a.names_of m))) h
attributes-of_tree a test n (Attribute m place) h = of_tree-nil n
attributes-of_tree a test n (String text) h = of_tree-nil n
attributes-of_tree a test n (Integer z) h = of_tree-nil n
attributes-of_tree a test n (Boolean b) h = of_tree-nil n

-- an argument at an index of a call's arguments
pub arguments-at : (n : ℕ) (arguments : List (List Item)) (i : ℕ) (x : List Item) → i < length arguments → x ≡ get_or arguments i x → ArgumentsOfTree n (map values_of arguments) → OfTree n (values_of x)
arguments-at n arguments i x lt is h = record {
  each = subst (λ ys. AreOfTree n ys) (get_or-map values_of arguments i x (values_of x) lt ∙ ap values_of (sym is)) (h.each i (values_of x) (subst (λ k. i < k) (sym (length-map arguments values_of)) lt));
}

pub arguments-behind : (n : ℕ) (arguments : List (List Item)) → ArgumentsOfTree n (map values_of arguments) → ArgumentsOfTree n (map values_of (drop 1 arguments))
arguments-behind n [] h = h
arguments-behind n (x ∷ xs) h = arguments-tail n (values_of x) (map values_of xs) h

pub arguments-rest : (n : ℕ) (arguments : List (List Item)) → ArgumentsOfTree n (map values_of arguments) → ArgumentsOfTree n (map values_of (take (length arguments - 1) (drop 1 arguments)))
arguments-rest n arguments h = subst (λ (xs : List (List Item)). ArgumentsOfTree n (map values_of xs)) (sym (take_rest arguments 1)) (arguments-behind n arguments h)
