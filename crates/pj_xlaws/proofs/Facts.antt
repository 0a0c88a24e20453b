-- What an expression denotes is of the tree, and asks of the attributes only those of the tree's nodes.
use mathlib.Core.Path.{fun_ext}
use Rattle.std.proofs.Common.{◌≡◌, ℕ, ◌+◌, ◌<◌, ℤ, pos, ◌+ℤ◌, ◌-ℤ◌, ap, ◌∙◌, sym, subst, refl, cond, Bool, true, false, IsTrue, List, [], ◌∷◌, ◌++◌, length, map, Option, None, Some, Result, Ok, Err, IfOk, nat_eq}
use Rattle.std.specs.Prelude.{if◌then◌else◌}
use Rattle.std.specs.Option.{ForSome}
use Rattle.std.specs.Cmp.Lexicographic.{pointwise}
use Rattle.std.specs.List.{AllByRecursion, enumerate_from, range_with_len, slice_get, slice_index_or}
use Rattle.std.proofs.lemmas.List.Elements.{All-nil, recursion_from_All}
use Rattle.pj_tree.specs.Tree as syntax
use Rattle.pj_tree.specs.declared.node.Node.{Node}
use Rattle.pj_xaxes.specs.Axes.{is_reverse}
use Rattle.pj_xaxes.specs.Order.{ordered, has_item}
use Rattle.pj_xaxes.proofs.Inside.{of_tree-ordered}
use Rattle.pj_xvalue.specs.Arguments.{and_then, optional_integer, atomic_text}
use Rattle.pj_xfuncs.specs.Library.{called as given}
use Rattle.pj_xfuncs.proofs.OfTree.{returned-of_tree}
use Rattle.pj_xpatterns.specs.Meaning.{Pattern}
use Rattle.pj_xsteps.proofs.OfTree.{attributes-of_tree, of_tree-filter, of_tree-reverse, stepped-of_tree}
use Rattle.pj_xsteps.specs.Arithmetic.{integers, literal, natural, number_items, range, signed, sum, product}
use Rattle.pj_xsteps.specs.Bindings.{for_in, let_in, quantified, with_item}
use Rattle.pj_xsteps.specs.Calls.{call, called, first_as_it_is, name_in, node_in, node_name, of_text, or_context, root_in}
use Rattle.pj_xsteps.specs.Context.{Around, Context, Denotation, Variables, around, at, value_of_variable}
use Rattle.pj_xsteps.specs.Denotes.{arguments_of, behind, denotes, here, with_argument, with_factor, with_nodes, with_set, with_term, with_text}
use Rattle.pj_xsteps.specs.Means.{Means, give, judged, chain, one_boolean}
use Rattle.pj_xsteps.specs.Operands.{listed, named_value, only_nodes, operand, valued, with_values}
use Rattle.pj_xsteps.specs.Sets.{chosen, stays as stays_in}
use Rattle.pj_xsteps.specs.Steps.{attributes, from_node, in_document_order, named_attributes, stepped}
use Rattle.pj_xsteps.specs.Turns.{in_turn, keeps, kept, mapped, narrowed, numbered, passing, path, simple_map, step_in_turn, through, united, walked, with_all, with_kept}
use Rattle.pj_xexpressions.specs.Trees as tree
use Rattle.pj_xexpressions.specs.Trees.{Construct, Tree, Trees, NoMore, More, tree_of}
use Rattle.pj_xvalue.specs.Atomic.{has_node}
use Rattle.pj_xvalue.specs.Boolean.{effective_boolean}
use Rattle.pj_xvalue.specs.Comparison.{general_comparison}
use Rattle.pj_xexpressions.specs.Functions.{takes, pmd_takes}
use Rattle.pj_xvalue.specs.Items.{ItemValue, Document, Element, Attribute, String, Integer, Boolean, IsOfTree, AreOfTree, are_atomic, are_nodes, is_node, values_of}
use Rattle.pj_xvalue.specs.OfTree.{OfTree, ArgumentsOfTree, VariablesOfTree}
use Rattle.pj_xvalue.proofs.OfTreeLaws.{of_tree-nil, of_tree-one, of_tree-append, of_tree-atomic, of_tree-head, each-of_tree, arguments-nil, arguments-cons, arguments-head, arguments-more, arguments-tail, variables-more}
use Rattle.pj_xexpressions.specs.declared.expr.Expr.{Expr}
use Rattle.pj_xexpressions.specs.declared.operator.Quantifier.{Quantifier}
use Rattle.pj_xexpressions.specs.declared.operator.Quantifier.TheVariants as quantifier
use Rattle.pj_xexpressions.specs.declared.operator.SetOperator.{SetOperator}
use Rattle.pj_xexpressions.specs.declared.expr.NodeTest.{NodeTest}
use Rattle.pj_xvalue.specs.declared.fault.XCode.{XCode}
use Rattle.pj_xvalue.specs.declared.fault.XCode.TheVariants.{XPTY0004, XPTY0018, XPTY0019, XPTY0020}
use Rattle.pj_xexpressions.specs.declared.function.Function.{Function}
use Rattle.pj_xexpressions.specs.declared.function.Function.TheVariants as f
use Rattle.pj_xvalue.specs.declared.item.Item.{Item}
use Rattle.pj_xvalue.specs.declared.item.Item.TheVariants as item
use Rattle.pj_xlaws.specs.TreeLaws.{Reply, RepliesOfTree, ValuesOfTree}
use Rattle.pj_xlaws.proofs.DenotedTrees.{by, denotes_tree, nothing, one, two, three}
use Rattle.pj_xlaws.proofs.Related.{Any, Gives, Paired, Same, any, branch, chained, decided_alike, failed, follow, gave, judges, stays}
use Rattle.pj_xexpressions.specs.TreeFolds.{behind_all, bound, first, fold_tree, fold_trees, rest}

-- ---- what is of every tree

each_integer : (from : ℤ) (ks : List ℕ) → IsTrue (are_atomic (map (λ k. Integer (from +ℤ pos k)) ks))
each_integer from [] = refl
each_integer from (k ∷ ks) = each_integer from ks

range_tree : (n : ℕ) (from to : Option ℤ) → OfTree n (range from to)
range_tree n (Some from) (Some to) = of_tree-atomic n (integers from to) (each_integer from (range_with_len 0 (natural ((to -ℤ from) +ℤ pos 1))))
range_tree n (Some from) None = of_tree-nil n
range_tree n None to = of_tree-nil n

number_tree : (n : ℕ) (number : Option ℤ) → OfTree n (number_items number)
number_tree n (Some z) = of_tree-one n (Integer z) tt
number_tree n None = of_tree-nil n

literal_tree : (n : ℕ) (value : Option ℤ) → IfOk (literal value) (OfTree n)
literal_tree n (Some z) = of_tree-one n (Integer z) tt
literal_tree n None = tt

-- an item of each value
abbrev item_of : ItemValue → Item
item_of Document = item.Document
item_of (Element n) = item.Node n
item_of (Attribute n place) = item.Attribute n place
item_of (String text) = item.Str text
item_of (Integer z) = item.Int z
item_of (Boolean b) = item.Bool b

items_are : (xs : List ItemValue) → values_of (map item_of xs) ≡ xs
items_are [] = refl
items_are (Document ∷ xs) = ap (λ t. Document ∷ t) (items_are xs)
items_are (Element n ∷ xs) = ap (λ t. Element n ∷ t) (items_are xs)
items_are (Attribute n place ∷ xs) = ap (λ t. Attribute n place ∷ t) (items_are xs)
items_are (String text ∷ xs) = ap (λ t. String text ∷ t) (items_are xs)
items_are (Integer z ∷ xs) = ap (λ t. Integer z ∷ t) (items_are xs)
items_are (Boolean b ∷ xs) = ap (λ t. Boolean b ∷ t) (items_are xs)

given_tree : (n : ℕ) (patterns : List Pattern) (function : Function) (arguments : List (List ItemValue)) → ArgumentsOfTree n arguments → IfOk (given patterns function arguments) (OfTree n)
given_tree n patterns function arguments h = go (given patterns function arguments) refl
  where
    go : (r : Result (List ItemValue) XCode) → given patterns function arguments ≡ r → IfOk r (OfTree n)
    go (Ok items) is = subst (λ xs. OfTree n xs) (items_are items)
        (returned-of_tree n patterns function arguments (Ok (map item_of items)) (ap (λ xs. Ok xs) (items_are items) ∙ sym is) h)
    go (Err code) is = tt

only_tree : (n : ℕ) (value : List ItemValue) → OfTree n value → IfOk (only_nodes value) (OfTree n)
only_tree n value h = elim (are_nodes value) as (λ b. IfOk (if b then Ok value else Err XPTY0004) (OfTree n)) [ true ↦ h | false ↦ tt ]

then_ok : {A B : Type 0} (P : A → Type 0) (Q : B → Type 0) (r : Result A XCode) (next : A → Result B XCode) → IfOk r P → ((a : A) → P a → IfOk (next a) Q) → IfOk (and_then r next) Q
then_ok P Q (Ok a) next h k = k a h
then_ok P Q (Err code) next h k = tt

kept_tree : (n : ℕ) (b : Bool) (x : ItemValue) → IsOfTree n x → OfTree n (kept b x)
kept_tree n true x h = of_tree-one n x h
kept_tree n false x h = of_tree-nil n

united_tree : (n : ℕ) (items : List ItemValue) → OfTree n items → IfOk (united items) (OfTree n)
united_tree n items h = elim (are_nodes items) as (λ b. IfOk (if b then Ok (ordered items) else (if has_node items then Err XPTY0018 else Ok items)) (OfTree n)) [
  | true ↦ of_tree-ordered n items h
  | false ↦ elim (has_node items) as (λ b. IfOk (if b then Err XPTY0018 else Ok items) (OfTree n)) [ true ↦ tt | false ↦ h ]
]

order_tree : (n : ℕ) (b : Bool) (items : List ItemValue) → OfTree n items → OfTree n (in_document_order b items)
order_tree n true items h = of_tree-reverse n items h
order_tree n false items h = h

abbrev ValueOfTree : ℕ → List ℕ × List ItemValue → Type 0
ValueOfTree n v = AreOfTree n v.1

of_variable : (n : ℕ) (name : List ℕ) (vs : Variables) → AllByRecursion (ValueOfTree n) vs → AreOfTree n (value_of_variable name vs)
of_variable n name [] h = All-nil (IsOfTree n)
of_variable n name (v ∷ vs) h = elim (pointwise nat_eq v.0 name) as (λ b. AreOfTree n (if b then v.1 else value_of_variable name vs)) [
  | true ↦ h.0
  | false ↦ of_variable n name vs h.1
]

variable_tree : (n : ℕ) (name : List ℕ) (vs : Variables) → VariablesOfTree n vs → OfTree n (value_of_variable name vs)
variable_tree n name vs h = record { each = of_variable n name vs (recursion_from_All (ValueOfTree n) vs h.each) }

-- items that are of the tree, with themselves
abbrev Itself : ℕ → ItemValue → ItemValue → Type 0
Itself n x y = (x ≡ y) × IsOfTree n x

items_paired : (n : ℕ) (xs : List ItemValue) → AllByRecursion (IsOfTree n) xs → Paired (Itself n) xs xs
items_paired n [] h = tt
items_paired n (x ∷ xs) h = ((refl, h.0), items_paired n xs h.1)

-- turns, with themselves
abbrev Turn : ℕ → ℕ × ItemValue → ℕ × ItemValue → Type 0
Turn n x y = (x ≡ y) × IsOfTree n x.1

turns_paired : (n position : ℕ) (xs : List ItemValue) → AllByRecursion (IsOfTree n) xs → Paired (Turn n) (numbered position xs) (numbered position xs)
turns_paired n position [] h = tt
turns_paired n position (x ∷ xs) h = ((refl, h.0), turns_paired n (position + 1) xs h.1)

-- in what is of the tree both denote the same, which is of the tree
record Alike (n : ℕ) (d e : Denotation) : Type 0 where
  is : (c : Context) (v : Variables) → IsOfTree n c.item → VariablesOfTree n v → Same (OfTree n) (d c v) (e c v)

module _ (t : syntax.Tree) (values others : Node → List ℕ → Option ItemValue) (names other_names : Node → List (List ℕ)) (patterns : List Pattern) (reply : Reply)
    (rooted : 0 < length t.nodes) (values_of_tree : ValuesOfTree (length t.nodes) values) (replies : RepliesOfTree (length t.nodes) reply)
    (same_names : (n : Node) → n.0 < length t.nodes → names n ≡ other_names n) (same_values : (n : Node) (name : List ℕ) → n.0 < length t.nodes → values n name ≡ others n name) where
  abbrev N : ℕ
  N = length t.nodes

  abbrev left : Around
  left = around t values names patterns

  abbrev right : Around
  right = around t others other_names patterns

  abbrev Items : List ItemValue → Type 0
  Items = OfTree N

  -- ---- attributes

  node_values : (n : Node) → n.0 < N → values n ≡ others n
  node_values n inside = fun_ext (λ name. same_values n name inside)

  valued_same : (x : ItemValue) → IsOfTree N x → valued left x ≡ valued right x
  valued_same Document h = refl
  valued_same (Element n) h = refl
  valued_same (Attribute n place) h = λ i. listed (named_value (node_values n h i) (slice_get (same_names n h i) place))
  valued_same (String text) h = refl
  valued_same (Integer z) h = refl
  valued_same (Boolean b) h = refl

  listed_tree : (o : Option ItemValue) → ForSome o (IsOfTree N) → Items (listed o)
  listed_tree None h = of_tree-nil N
  listed_tree (Some x) h = of_tree-one N x (h x refl)

  named_tree : (n : Node) → n.0 < N → (o : Option (List ℕ)) → Items (listed (named_value (values n) o))
  named_tree n inside None = of_tree-nil N
  named_tree n inside (Some name) = listed_tree (values n name) (values_of_tree n name inside)

  valued_tree : (x : ItemValue) → IsOfTree N x → Items (valued left x)
  valued_tree (Attribute n place) h = named_tree n h (slice_get (names n) place)
  valued_tree Document h = of_tree-one N Document h
  valued_tree (Element n) h = of_tree-one N (Element n) h
  valued_tree (String text) h = of_tree-one N (String text) h
  valued_tree (Integer z) h = of_tree-one N (Integer z) h
  valued_tree (Boolean b) h = of_tree-one N (Boolean b) h

  each_same : (xs : List ItemValue) → AllByRecursion (IsOfTree N) xs → with_values left xs ≡ with_values right xs
  each_same [] h = refl
  each_same (x ∷ xs) h = λ i. valued_same x h.0 i ++ each_same xs h.1 i

  each_tree : (xs : List ItemValue) → AllByRecursion (IsOfTree N) xs → Items (with_values left xs)
  each_tree [] h = of_tree-nil N
  each_tree (x ∷ xs) h = of_tree-append N (valued left x) (with_values left xs) (valued_tree x h.0) (each_tree xs h.1)

  with_same : (xs : List ItemValue) → Items xs → with_values left xs ≡ with_values right xs
  with_same xs h = each_same xs (each-of_tree N xs h)

  with_tree : (xs : List ItemValue) → Items xs → Items (with_values left xs)
  with_tree xs h = each_tree xs (each-of_tree N xs h)

  operand_same : (xs : List ItemValue) → Items xs → operand left xs ≡ operand right xs
  operand_same xs h = ap optional_integer (with_same xs h)

  attributes_same : (test : NodeTest) (x : ItemValue) → IsOfTree N x → attributes left test x ≡ attributes right test x
  attributes_same test Document h = refl
  attributes_same test (Element n) h = λ i. named_attributes (node_values n h i) test n (enumerate_from 0 (same_names n h i))
  attributes_same test (Attribute n place) h = refl
  attributes_same test (String text) h = refl
  attributes_same test (Integer z) h = refl
  attributes_same test (Boolean b) h = refl

  -- ---- calls

  map_same : (xss : List (List ItemValue)) → ArgumentsOfTree N xss → map (with_values left) xss ≡ map (with_values right) xss
  map_same [] h = refl
  map_same (xs ∷ xss) h = λ i. with_same xs (arguments-head N xs xss h) i ∷ map_same xss (arguments-tail N xs xss h) i

  map_tree : (xss : List (List ItemValue)) → ArgumentsOfTree N xss → ArgumentsOfTree N (map (with_values left) xss)
  map_tree [] h = h
  map_tree (xs ∷ xss) h = arguments-cons N (with_values left xs) (map (with_values left) xss) (with_tree xs (arguments-head N xs xss h)) (map_tree xss (arguments-tail N xs xss h))

  one_argument : (xs : List ItemValue) → Items xs → ArgumentsOfTree N (xs ∷ [])
  one_argument xs h = arguments-cons N xs [] h (arguments-nil N)

  context_tree : (c : Context) (xss : List (List ItemValue)) → IsOfTree N c.item → ArgumentsOfTree N xss → Items (or_context c xss)
  context_tree c [] h k = of_tree-one N c.item h
  context_tree c (xs ∷ xss) h k = arguments-head N xs xss k

  node_name_same : (x : ItemValue) → IsOfTree N x → node_name left x ≡ node_name right x
  node_name_same Document h = refl
  node_name_same (Element n) h = refl
  node_name_same (Attribute n place) h = ap (λ ns. slice_index_or ns place []) (same_names n h)
  node_name_same (String text) h = refl
  node_name_same (Integer z) h = refl
  node_name_same (Boolean b) h = refl

  name_same : (xs : List ItemValue) → Items xs → name_in left xs ≡ name_in right xs
  name_same [] h = refl
  name_same (x ∷ []) h = ap (λ name. cond (is_node x) (Ok (String name ∷ [])) (Err XPTY0004)) (node_name_same x (of_tree-head N x [] h))
  name_same (x ∷ y ∷ xs) h = refl

  name_tree : (xs : List ItemValue) → IfOk (name_in left xs) Items
  name_tree [] = of_tree-one N (String []) tt
  name_tree (x ∷ []) = elim (is_node x) as (λ b. IfOk (if b then Ok (String (node_name left x) ∷ []) else Err XPTY0004) Items) [ true ↦ of_tree-one N (String (node_name left x)) tt | false ↦ tt ]
  name_tree (x ∷ y ∷ xs) = tt

  root_tree : (xs : List ItemValue) → IfOk (root_in xs) Items
  root_tree [] = of_tree-nil N
  root_tree (x ∷ []) = elim (is_node x) as (λ b. IfOk (if b then Ok (Document ∷ []) else Err XPTY0004) Items) [ true ↦ of_tree-one N Document tt | false ↦ tt ]
  root_tree (x ∷ y ∷ xs) = tt

  text_same : (function : Function) (c : Context) (xss : List (List ItemValue)) → IsOfTree N c.item → ArgumentsOfTree N xss → of_text left function c xss ≡ of_text right function c xss
  text_same function c [] h k = ap (λ xs. and_then (given patterns f.String (xs ∷ [])) (λ text. given patterns function (text ∷ []))) (with_same (c.item ∷ []) (of_tree-one N c.item h))
  text_same function c (xs ∷ xss) h k = ap (given patterns function) (map_same (xs ∷ xss) k)

  text_tree : (function : Function) (c : Context) (xss : List (List ItemValue)) → IsOfTree N c.item → ArgumentsOfTree N xss → IfOk (of_text left function c xss) Items
  text_tree function c [] h k = then_ok Items Items (given patterns f.String (with_values left (c.item ∷ []) ∷ [])) (λ text. given patterns function (text ∷ []))
      (given_tree N patterns f.String _ (one_argument _ (with_tree (c.item ∷ []) (of_tree-one N c.item h)))) (λ text it. given_tree N patterns function (text ∷ []) (one_argument text it))
  text_tree function c (xs ∷ xss) h k = given_tree N patterns function (map (with_values left) (xs ∷ xss)) (map_tree (xs ∷ xss) k)

  first_same : (xss : List (List ItemValue)) → ArgumentsOfTree N xss → first_as_it_is left xss ≡ first_as_it_is right xss
  first_same [] h = refl
  first_same (xs ∷ xss) h = ap (λ rest. xs ∷ rest) (map_same xss (arguments-tail N xs xss h))

  first_tree : (xss : List (List ItemValue)) → ArgumentsOfTree N xss → ArgumentsOfTree N (first_as_it_is left xss)
  first_tree [] h = h
  first_tree (xs ∷ xss) h = arguments-cons N xs (map (with_values left) xss) (arguments-head N xs xss h) (map_tree xss (arguments-tail N xs xss h))

  called_same : (function : Function) (c : Context) (xss : List (List ItemValue)) → IsOfTree N c.item → ArgumentsOfTree N xss → called left function c xss ≡ called right function c xss
  called_same f.Position c xss h k = refl
  called_same f.Last c xss h k = refl
  called_same f.Name c xss h k = name_same (or_context c xss) (context_tree c xss h k)
  called_same f.LocalName c xss h k = name_same (or_context c xss) (context_tree c xss h k)
  called_same f.Root c xss h k = refl
  called_same f.String c xss h k = ap (λ xs. given patterns f.String (xs ∷ [])) (with_same (or_context c xss) (context_tree c xss h k))
  called_same f.StringLength c xss h k = text_same f.StringLength c xss h k
  called_same f.NormalizeSpace c xss h k = text_same f.NormalizeSpace c xss h k
  called_same f.Count c xss h k = refl
  called_same f.Exists c xss h k = refl
  called_same f.Empty c xss h k = refl
  called_same f.Not c xss h k = refl
  called_same f.Boolean c xss h k = refl
  called_same f.Reverse c xss h k = refl
  called_same f.Subsequence c xss h k = ap (given patterns f.Subsequence) (first_same xss k)
  called_same function c xss h k = ap (given patterns function) (map_same xss k)

  called_tree : (function : Function) (c : Context) (xss : List (List ItemValue)) → IsOfTree N c.item → ArgumentsOfTree N xss → IfOk (called left function c xss) Items
  called_tree f.Position c xss h k = of_tree-one N (Integer c.position) tt
  called_tree f.Last c xss h k = of_tree-one N (Integer c.size) tt
  called_tree f.Name c xss h k = name_tree (or_context c xss)
  called_tree f.LocalName c xss h k = name_tree (or_context c xss)
  called_tree f.Root c xss h k = root_tree (or_context c xss)
  called_tree f.String c xss h k = given_tree N patterns f.String _ (one_argument _ (with_tree (or_context c xss) (context_tree c xss h k)))
  called_tree f.StringLength c xss h k = text_tree f.StringLength c xss h k
  called_tree f.NormalizeSpace c xss h k = text_tree f.NormalizeSpace c xss h k
  called_tree f.Count c xss h k = given_tree N patterns f.Count xss k
  called_tree f.Exists c xss h k = given_tree N patterns f.Exists xss k
  called_tree f.Empty c xss h k = given_tree N patterns f.Empty xss k
  called_tree f.Not c xss h k = given_tree N patterns f.Not xss k
  called_tree f.Boolean c xss h k = given_tree N patterns f.Boolean xss k
  called_tree f.Reverse c xss h k = given_tree N patterns f.Reverse xss k
  called_tree f.Subsequence c xss h k = given_tree N patterns f.Subsequence _ (first_tree xss k)
  called_tree function c xss h k = given_tree N patterns function _ (map_tree xss k)

  call_same : (function : Function) (c : Context) (xss : List (List ItemValue)) → IsOfTree N c.item → ArgumentsOfTree N xss → call left function c xss ≡ call right function c xss
  call_same function c xss h k = ap (λ r. cond (takes function (length xss)) r (Err XPTY0004)) (called_same function c xss h k)

  call_tree : (function : Function) (c : Context) (xss : List (List ItemValue)) → IsOfTree N c.item → ArgumentsOfTree N xss → IfOk (call left function c xss) Items
  call_tree function c xss h k = elim (takes function (length xss)) as (λ b. IfOk (if b then called left function c xss else Err XPTY0004) Items) [ true ↦ called_tree function c xss h k | false ↦ tt ]

  node_tree : (x : ItemValue) → IsOfTree N x → ForSome (node_in x) (λ n. n.0 < N)
  node_tree Document h = λ n is. absurd (cc)
  node_tree (Element m) h = λ n is. let same : m ≡ n = cc in subst (λ (k : Node). k.0 < N) same h
  node_tree (Attribute m place) h = λ n is. absurd (cc)
  node_tree (String text) h = λ n is. absurd (cc)
  node_tree (Integer z) h = λ n is. absurd (cc)
  node_tree (Boolean b) h = λ n is. absurd (cc)

  -- ---- denotations

  abbrev Like : Denotation → Denotation → Type 0
  Like = Alike N

  abbrev Beside : {X : Type 0} → X × Denotation → X × Denotation → Type 0
  Beside x y = (x.0 ≡ y.0) × Like x.1 y.1

  nothing_alike : Like nothing nothing
  nothing_alike = record { is = λ c v h k. gave Items [] (of_tree-nil N) }

  first_alike : (ds es : List Denotation) → Paired Like ds es → Like (first nothing ds) (first nothing es)
  first_alike [] [] h = nothing_alike
  first_alike (d ∷ ds) (e ∷ es) h = h.0
  first_alike [] (e ∷ es) h = absurd h
  first_alike (d ∷ ds) [] h = absurd h

  rest_alike : (ds es : List Denotation) → Paired Like ds es → Paired Like (rest ds) (rest es)
  rest_alike [] [] h = tt
  rest_alike (d ∷ ds) (e ∷ es) h = h.1
  rest_alike [] (e ∷ es) h = absurd h
  rest_alike (d ∷ ds) [] h = absurd h

  bound_alike : {X : Type 0} (xs : List X) (ds es : List Denotation) → Paired Like ds es → Paired Beside (bound xs ds) (bound xs es)
  bound_alike [] ds es h = tt
  bound_alike (x ∷ xs) [] [] h = tt
  bound_alike (x ∷ xs) (d ∷ ds) (e ∷ es) h = ((refl, h.0), bound_alike xs ds es h.1)
  bound_alike (x ∷ xs) [] (e ∷ es) h = absurd h
  bound_alike (x ∷ xs) (d ∷ ds) [] h = absurd h

  behind_alike : {X : Type 0} (xs : List X) (ds es : List Denotation) → Paired Like ds es → Like (behind_all nothing xs ds) (behind_all nothing xs es)
  behind_alike [] ds es h = first_alike ds es h
  behind_alike (x ∷ xs) ds es h = behind_alike xs (rest ds) (rest es) (rest_alike ds es h)

  module _ (c : Context) (v : Variables) (h : IsOfTree N c.item) (k : VariablesOfTree N v) where
    -- ---- many in a row

    appended : {X : Type 0} (R : X → X → Type 0) (m n : X → Means (List ItemValue)) → ((x y : X) → R x y → Same Items (m x) (n y)) → (xs ys : List X) → Paired R xs ys
        → Same Items (chain m with_all xs []) (chain n with_all ys [])
    appended R m n meant xs ys p = chained R Items Items m n with_all with_all meant (λ x y r s q value it. (refl, of_tree-append N s value q it)) xs ys p [] (of_tree-nil N)

    arguments_alike : (ds es : List Denotation) → Paired Like ds es → Same (ArgumentsOfTree N) (arguments_of ds c v) (arguments_of es c v)
    arguments_alike ds es p = chained Like Items (ArgumentsOfTree N) (here c v) (here c v) with_argument with_argument (λ d e a. a.is c v h k)
        (λ x y r s q value it. (refl, arguments-more N s value q it)) ds es p [] (arguments-nil N)

    in_turn_alike : (d e : Denotation) → Like d e → (size : ℕ) (x y : ℕ × ItemValue) → Turn N x y → Same Items (in_turn d size v x) (in_turn e size v y)
    in_turn_alike d e a size x y r = subst (λ z. Same Items (in_turn d size v x) (in_turn e size v z)) r.0 (a.is (at x.1 x.0 size) v r.1 k)

    keeps_alike : (x y : ℕ × ItemValue) → Turn N x y → (s : List ItemValue) → Items s → (value : List ItemValue) → Items value → (with_kept x s value ≡ with_kept y s value) × IfOk (with_kept x s value) Items
    keeps_alike x y r s q value it =
        (ap (λ z. with_kept z s value) r.0, then_ok Any Items (keeps (pos x.0) value) (λ b. Ok (s ++ kept b x.1)) (any (keeps (pos x.0) value)) (λ b u. of_tree-append N s (kept b x.1) q (kept_tree N b x.1 r.1)))

    passing_alike : (d e : Denotation) → Like d e → (items : List ItemValue) → Items items → Same Items (passing v d items) (passing v e items)
    passing_alike d e a items it = chained (Turn N) Items Items (in_turn d (length items) v) (in_turn e (length items) v) with_kept with_kept (in_turn_alike d e a (length items)) keeps_alike
        (numbered 1 items) (numbered 1 items) (turns_paired N 1 items (each-of_tree N items it)) [] (of_tree-nil N)

    mapped_alike : (d e : Denotation) → Like d e → (items : List ItemValue) → Items items → Same Items (mapped v d items) (mapped v e items)
    mapped_alike d e a items it = appended (Turn N) (in_turn d (length items) v) (in_turn e (length items) v) (in_turn_alike d e a (length items)) (numbered 1 items) (numbered 1 items) (turns_paired N 1 items (each-of_tree N items it))

    step_alike : (d e : Denotation) → Like d e → (size : ℕ) (x y : ℕ × ItemValue) → Turn N x y → Same Items (step_in_turn d size v x) (step_in_turn e size v y)
    step_alike d e a size x y r = subst (λ z. Same Items (step_in_turn d size v x) (step_in_turn e size v z)) r.0 (branch Items (is_node x.1) (in_turn_alike d e a size x x (refl, r.1)) (failed Items XPTY0019))

    walked_alike : (d e : Denotation) → Like d e → (items : List ItemValue) → Items items → Same Items (walked v d items) (walked v e items)
    walked_alike d e a items it = follow Items Items
        (appended (Turn N) (step_in_turn d (length items) v) (step_in_turn e (length items) v) (step_alike d e a (length items)) (numbered 1 items) (numbered 1 items) (turns_paired N 1 items (each-of_tree N items it)))
        (λ found ft. judges Items refl (united_tree N found ft))

    through_alike : (turned : Denotation → List ItemValue → Means (List ItemValue)) → ((d e : Denotation) → Like d e → (items : List ItemValue) → Items items → Same Items (turned d items) (turned e items))
        → (ds es : List Denotation) → Paired Like ds es → (items : List ItemValue) → Items items → Same Items (through turned ds items) (through turned es items)
    through_alike turned each [] [] p items it = gave Items items it
    through_alike turned each (d ∷ ds) (e ∷ es) p items it = follow Items Items (each d e p.0 items it) (λ found ft. through_alike turned each ds es p.1 found ft)
    through_alike turned each [] (e ∷ es) p items it = absurd p
    through_alike turned each (d ∷ ds) [] p items it = absurd p

    narrowed_alike : (ds es : List Denotation) → Paired Like ds es → (items : List ItemValue) → Items items → Same Items (narrowed v ds items) (narrowed v es items)
    narrowed_alike = through_alike (passing v) passing_alike

    path_alike : (ds es : List Denotation) → Paired Like ds es → Same Items (path ds c v) (path es c v)
    path_alike [] [] p = gave Items [] (of_tree-nil N)
    path_alike (d ∷ ds) (e ∷ es) p = follow Items Items (p.0.is c v h k) (λ items it. through_alike (walked v) walked_alike ds es p.1 items it)
    path_alike [] (e ∷ es) p = absurd p
    path_alike (d ∷ ds) [] p = absurd p

    map_alike : (ds es : List Denotation) → Paired Like ds es → Same Items (simple_map ds c v) (simple_map es c v)
    map_alike [] [] p = gave Items [] (of_tree-nil N)
    map_alike (d ∷ ds) (e ∷ es) p = follow Items Items (p.0.is c v h k) (λ items it. through_alike (mapped v) mapped_alike ds es p.1 items it)
    map_alike [] (e ∷ es) p = absurd p
    map_alike (d ∷ ds) [] p = absurd p

    from_alike : {m n : Means (List ItemValue)} → Same Items m n → Same Items (from_node c.item m) (from_node c.item n)
    from_alike s = branch Items (is_node c.item) s (failed Items XPTY0020)

    -- ---- what stands behind operators

    behind_is : {X : Type 0} (x y : X × Denotation) → Beside x y → Same Items (behind c v x) (behind c v y)
    behind_is x y b = b.1.is c v h k

    number : (n : Option ℤ) → Same Items (give (number_items n)) (give (number_items n))
    number n = gave Items (number_items n) (number_tree N n)

    truth : (b : Bool) → Same Items (give (one_boolean b)) (give (one_boolean b))
    truth b = gave Items (one_boolean b) (of_tree-one N (Boolean b) tt)

    an_operand : (xs : List ItemValue) → Items xs → Same Any (judged (operand left xs)) (judged (operand right xs))
    an_operand xs it = judges Any (operand_same xs it) (any (operand left xs))

    nodes_alike : (s : List ItemValue) → Items s → (value : List ItemValue) → Items value → IfOk (and_then (only_nodes value) (λ more. Ok (s ++ more))) Items
    nodes_alike s q value it = then_ok Items Items (only_nodes value) (λ more. Ok (s ++ more)) (only_tree N value it) (λ more mt. of_tree-append N s more q mt)

    set_alike : (x y : SetOperator × Denotation) → Beside x y → (s : List ItemValue) → Items s → (value : List ItemValue) → Items value → (with_set x s value ≡ with_set y s value) × IfOk (with_set x s value) Items
    set_alike x y b s q value it = (
      ap (λ o. and_then (only_nodes value) (λ more. Ok (chosen o s more))) b.0,
      then_ok Any Items (only_nodes value) (λ more. Ok (chosen x.0 s more)) (any (only_nodes value)) (λ more u. of_tree-ordered N _ (of_tree-filter N (λ i. stays_in x.0 (has_item more i)) s q)),
    )

  -- ---- binders

  named_alike : (d e : Denotation) → Like d e → (name other : List ℕ) → name ≡ other → (items : List ItemValue) → Items items → (c : Context) (v : Variables) → IsOfTree N c.item → VariablesOfTree N v
      → Same Items (d c ((name, items) ∷ v)) (e c ((other, items) ∷ v))
  named_alike d e a name other same items it c v h k = subst (λ z. Same Items (d c ((name, items) ∷ v)) (e c ((z, items) ∷ v))) same (a.is c ((name, items) ∷ v) h (variables-more N name items v it k))

  item_alike : (d e : Denotation) → Like d e → (name other : List ℕ) → name ≡ other → (c : Context) (v : Variables) → IsOfTree N c.item → VariablesOfTree N v → (x y : ItemValue) → Itself N x y
      → Same Items (with_item name d c v x) (with_item other e c v y)
  item_alike d e a name other same c v h k x y r = subst (λ z. Same Items (with_item name d c v x) (with_item other e c v z)) r.0 (named_alike d e a name other same (x ∷ []) (of_tree-one N x r.1) c v h k)

  for_alike : (bs cs : List (List ℕ × Denotation)) → Paired Beside bs cs → (d e : Denotation) → Like d e → Like (for_in bs d) (for_in cs e)
  for_alike [] [] p d e a = record { is = λ c v h k. a.is c v h k }
  for_alike (x ∷ bs) (y ∷ cs) p d e a = record {
    is = λ c v h k. follow Items Items (p.0.1.is c v h k)
        (λ items it. appended c v h k (Itself N) (with_item x.0 (for_in bs d) c v) (with_item y.0 (for_in cs e) c v) (item_alike (for_in bs d) (for_in cs e) (for_alike bs cs p.1 d e a) x.0 y.0 p.0.0 c v h k)
        items items (items_paired N items (each-of_tree N items it)));
  }
  for_alike [] (y ∷ cs) p d e a = absurd p
  for_alike (x ∷ bs) [] p d e a = absurd p

  let_alike : (bs cs : List (List ℕ × Denotation)) → Paired Beside bs cs → (d e : Denotation) → Like d e → Like (let_in bs d) (let_in cs e)
  let_alike [] [] p d e a = record { is = λ c v h k. a.is c v h k }
  let_alike (x ∷ bs) (y ∷ cs) p d e a = record {
    is = λ c v h k. follow Items Items (p.0.1.is c v h k) (λ items it. named_alike (let_in bs d) (let_in cs e) (let_alike bs cs p.1 d e a) x.0 y.0 p.0.0 items it c v h k);
  }
  let_alike [] (y ∷ cs) p d e a = absurd p
  let_alike (x ∷ bs) [] p d e a = absurd p

  quantified_alike : (q : Quantifier) (bs cs : List (List ℕ × Denotation)) → Paired Beside bs cs → (d e : Denotation) → Like d e → Like (quantified q bs d) (quantified q cs e)
  quantified_alike q [] [] p d e a = record {
    is = λ c v h k. follow Items Items (a.is c v h k) (λ value it. follow Any Items (judges Any refl (any (effective_boolean value))) (λ b u. truth c v h k b));
  }
  quantified_alike q (x ∷ bs) (y ∷ cs) p d e a = record {
    is = λ c v h k. follow Items Items (p.0.1.is c v h k)
        (λ items it. decided_alike (Itself N) Items (λ b. of_tree-one N (Boolean b) tt) q (with_item x.0 (quantified q bs d) c v) (with_item y.0 (quantified q cs e) c v)
        (item_alike (quantified q bs d) (quantified q cs e) (quantified_alike q bs cs p.1 d e a) x.0 y.0 p.0.0 c v h k) items items (items_paired N items (each-of_tree N items it)));
  }
  quantified_alike q [] (y ∷ cs) p d e a = absurd p
  quantified_alike q (x ∷ bs) [] p d e a = absurd p

  -- ---- expressions

  ones : (ds es : List Denotation) → Paired Like ds es → Like (one ds) (one es)
  ones ds es p = first_alike ds es p

  twos : (ds es : List Denotation) → Paired Like ds es → Like (two ds) (two es)
  twos ds es p = first_alike (rest ds) (rest es) (rest_alike ds es p)

  threes : (ds es : List Denotation) → Paired Like ds es → Like (three ds) (three es)
  threes ds es p = first_alike (rest (rest ds)) (rest (rest es)) (rest_alike (rest ds) (rest es) (rest_alike ds es p))

  by_alike : (construct : Construct) (ds es : List Denotation) → Paired Like ds es → (c : Context) (v : Variables) → IsOfTree N c.item → VariablesOfTree N v
      → Same Items (by left reply construct ds c v) (by right reply construct es c v)
  by_alike tree.Comma ds es p c v h k = appended c v h k Like (here c v) (here c v) (λ d e a. a.is c v h k) ds es p
  by_alike (tree.For ns) ds es p c v h k = (for_alike (bound ns ds) (bound ns es) (bound_alike ns ds es p) (behind_all nothing ns ds) (behind_all nothing ns es) (behind_alike ns ds es p)).is c v h k
  by_alike (tree.Let ns) ds es p c v h k = (let_alike (bound ns ds) (bound ns es) (bound_alike ns ds es p) (behind_all nothing ns ds) (behind_all nothing ns es) (behind_alike ns ds es p)).is c v h k
  by_alike (tree.Quantified q ns) ds es p c v h k = (quantified_alike q (bound ns ds) (bound ns es) (bound_alike ns ds es p) (behind_all nothing ns ds) (behind_all nothing ns es) (behind_alike ns ds es p)).is c v h k
  by_alike tree.If ds es p c v h k = follow Items Items ((ones ds es p).is c v h k) (λ value it. follow Any Items (judges Any refl (any (effective_boolean value)))
      (λ b u. branch Items b ((twos ds es p).is c v h k) ((threes ds es p).is c v h k)))
  by_alike tree.Or ds es p c v h k = decided_alike Like Items (λ b. of_tree-one N (Boolean b) tt) quantifier.Some (here c v) (here c v) (λ d e a. a.is c v h k) ds es p
  by_alike tree.And ds es p c v h k = decided_alike Like Items (λ b. of_tree-one N (Boolean b) tt) quantifier.Every (here c v) (here c v) (λ d e a. a.is c v h k) ds es p
  by_alike (tree.Comparison op) ds es p c v h k = follow Items Items ((ones ds es p).is c v h k) (λ xs xt. follow Items Items ((twos ds es p).is c v h k) (λ ys yt.
      follow Any Items (judges Any (λ i. general_comparison op (with_same xs xt i) (with_same ys yt i)) (any (general_comparison op (with_values left xs) (with_values left ys)))) (λ b u. truth c v h k b)))
  by_alike tree.Concatenation ds es p c v h k = follow Any Items
      (chained Like Items Any (here c v) (here c v) (with_text left) (with_text right) (λ d e a. a.is c v h k)
      (λ x y r s q value it. (ap (λ xs. and_then (atomic_text xs) (λ more. Ok (s ++ more))) (with_same value it), any (with_text left x s value))) ds es p [] tt)
      (λ text u. gave Items (String text ∷ []) (of_tree-one N (String text) tt))
  by_alike tree.Range ds es p c v h k = follow Items Items ((ones ds es p).is c v h k) (λ xs xt. follow Any Items (an_operand c v h k xs xt) (λ a u.
      follow Items Items ((twos ds es p).is c v h k) (λ ys yt. follow Any Items (an_operand c v h k ys yt) (λ b w. gave Items (range a b) (range_tree N a b)))))
  by_alike (tree.Additive' operators) ds es p c v h k = follow Items Items ((ones ds es p).is c v h k) (λ value it. follow Any Items (an_operand c v h k value it) (λ term u.
      follow Any Items (chained Beside Items Any (behind c v) (behind c v) (with_term left) (with_term right) (behind_is c v h k)
      (λ x y b s q xs xt. ((λ i. and_then (operand_same xs xt i) (λ z. sum (b.0 i) s z)), any (with_term left x s xs))) (bound operators (rest ds)) (bound operators (rest es)) (bound_alike operators (rest ds) (rest es) (rest_alike ds es p)) term tt)
      (λ total w. number c v h k total)))
  by_alike (tree.Multiplicative' operators) ds es p c v h k = follow Items Items ((ones ds es p).is c v h k) (λ value it. follow Any Items (an_operand c v h k value it) (λ factor u.
      follow Any Items (chained Beside Items Any (behind c v) (behind c v) (with_factor left) (with_factor right) (behind_is c v h k)
      (λ x y b s q xs xt. ((λ i. and_then (operand_same xs xt i) (λ z. product (b.0 i) s z)), any (with_factor left x s xs))) (bound operators (rest ds)) (bound operators (rest es)) (bound_alike operators (rest ds) (rest es) (rest_alike ds es p)) factor tt)
      (λ total w. number c v h k total)))
  by_alike tree.Union ds es p c v h k = follow Items Items
      (chained Like Items Items (here c v) (here c v) with_nodes with_nodes (λ d e a. a.is c v h k) (λ x y r s q value it. (refl, nodes_alike c v h k s q value it)) ds es p [] (of_tree-nil N))
      (λ found ft. gave Items (ordered found) (of_tree-ordered N found ft))
  by_alike (tree.IntersectExcept operators) ds es p c v h k = follow Items Items ((ones ds es p).is c v h k) (λ value it. follow Items Items (judges Items refl (only_tree N value it)) (λ nodes nt.
      chained Beside Items Items (behind c v) (behind c v) with_set with_set (behind_is c v h k) (set_alike c v h k) (bound operators (rest ds)) (bound operators (rest es)) (bound_alike operators (rest ds) (rest es) (rest_alike ds es p)) nodes nt))
  by_alike (tree.Unary sign) ds es p c v h k = follow Items Items ((ones ds es p).is c v h k) (λ value it. follow Any Items (an_operand c v h k value it) (λ z u.
      follow Any Items (judges Any refl (any (signed sign z))) (λ result w. number c v h k result)))
  by_alike tree.SimpleMap ds es p c v h k = map_alike c v h k ds es p
  by_alike tree.Path ds es p c v h k = path_alike c v h k ds es p
  by_alike tree.Root ds es p c v h k = from_alike c v h k (gave Items (Document ∷ []) (of_tree-one N Document tt))
  by_alike (tree.Step axis test) ds es p c v h k = from_alike c v h k (follow Items Items (narrowed_alike c v h k ds es p (stepped t axis test c.item) (stepped-of_tree t axis test c.item rooted h))
      (λ found ft. gave Items (in_document_order (is_reverse axis) found) (order_tree N (is_reverse axis) found ft)))
  by_alike (tree.AttributeStep test) ds es p c v h k = from_alike c v h k
      (subst (λ items. Same Items (narrowed v ds (attributes left test c.item)) (narrowed v es items)) (attributes_same test c.item h)
      (narrowed_alike c v h k ds es p (attributes left test c.item) (attributes-of_tree left test N c.item h)))
  by_alike tree.Filter ds es p c v h k = follow Items Items ((ones ds es p).is c v h k) (λ items it. narrowed_alike c v h k (rest ds) (rest es) (rest_alike ds es p) items it)
  by_alike (tree.Integer value) ds es p c v h k = judges Items refl (literal_tree N value)
  by_alike (tree.String text) ds es p c v h k = gave Items (String text ∷ []) (of_tree-one N (String text) tt)
  by_alike (tree.Variable name) ds es p c v h k = gave Items (value_of_variable name v) (variable_tree N name v k)
  by_alike tree.ContextItem ds es p c v h k = gave Items (c.item ∷ []) (of_tree-one N c.item h)
  by_alike (tree.Call function) ds es p c v h k = follow (ArgumentsOfTree N) Items (arguments_alike c v h k ds es p) (λ xss xt. judges Items (call_same function c xss h xt) (call_tree function c xss h xt))
  by_alike (tree.PmdCall function) ds es p c v h k = follow (ArgumentsOfTree N) Items (arguments_alike c v h k ds es p) (λ xss xt.
      branch Items (pmd_takes function (length xss)) (stays Items (reply function (node_in c.item) xss) (replies function (node_in c.item) xss (node_tree c.item h) xt)) (failed Items XPTY0004))

  mutual
    unfolding fold_tree fold_trees

    tree_alike : (e : Tree) → Like (fold_tree (by left reply) e) (fold_tree (by right reply) e)
    tree_alike (tree.Node construct parts) = record { is = by_alike construct (fold_trees (by left reply) parts) (fold_trees (by right reply) parts) (trees_alike parts) }

    trees_alike : (es : Trees) → Paired Like (fold_trees (by left reply) es) (fold_trees (by right reply) es)
    trees_alike NoMore = tt
    trees_alike (More e es) = (tree_alike e, trees_alike es)

  denotes_alike : (e : Expr) (c : Context) (v : Variables) → IsOfTree N c.item → VariablesOfTree N v → denotes left reply e c v ≡ denotes right reply e c v
  denotes_alike e c v h k = (λ i. denotes_tree left reply e i c v) ∙ ((tree_alike (tree_of e)).is c v h k).equal ∙ (λ i. sym (denotes_tree right reply e) i c v)

  denoted_tree : (e : Expr) (c : Context) (v : Variables) → IsOfTree N c.item → VariablesOfTree N v → Gives Items (denotes left reply e c v)
  denoted_tree e c v h k = subst (λ (m : Means (List ItemValue)). Gives Items m) (λ i. sym (denotes_tree left reply e) i c v) ((tree_alike (tree_of e)).is c v h k).gives

pub denotes_of_tree : (t : syntax.Tree) (values : Node → List ℕ → Option ItemValue) (names : Node → List (List ℕ)) (patterns : List Pattern) (reply : Reply) (e : Expr) (c : Context) (v : Variables)
    → 0 < length t.nodes → ValuesOfTree (length t.nodes) values → RepliesOfTree (length t.nodes) reply → IsOfTree (length t.nodes) c.item → VariablesOfTree (length t.nodes) v
    → Gives (OfTree (length t.nodes)) (denotes (around t values names patterns) reply e c v)
denotes_of_tree t values names patterns reply e c v rooted values_tree replies h k =
    denoted_tree t values values names names patterns reply rooted values_tree replies (λ n inside. refl) (λ n name inside. refl) e c v h k

pub denotes_by_facts : (t : syntax.Tree) (values others : Node → List ℕ → Option ItemValue) (names other_names : Node → List (List ℕ)) (patterns : List Pattern) (reply : Reply) (e : Expr) (c : Context) (v : Variables)
    → 0 < length t.nodes → ValuesOfTree (length t.nodes) values → RepliesOfTree (length t.nodes) reply
    → ((n : Node) → n.0 < length t.nodes → names n ≡ other_names n) → ((n : Node) (name : List ℕ) → n.0 < length t.nodes → values n name ≡ others n name)
    → IsOfTree (length t.nodes) c.item → VariablesOfTree (length t.nodes) v
    → denotes (around t values names patterns) reply e c v ≡ denotes (around t others other_names patterns) reply e c v
denotes_by_facts t values others names other_names patterns reply e c v rooted values_tree replies same_names same_values h k =
    denotes_alike t values others names other_names patterns reply rooted values_tree replies same_names same_values e c v h k
