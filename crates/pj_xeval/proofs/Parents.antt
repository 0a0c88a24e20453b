-- The parents of what is below some nodes: of all that is at or below these, what has a child that passes.
use Rattle.std.proofs.Common.{◌≡◌, ℕ, zero, suc, ◌+◌, ◌-◌, ◌<◌, ◌≤◌, Bool, true, false, not, ◌&&◌, ◌||◌, cond, IsTrue, ◌↔◌, List, [], ◌∷◌, ◌++◌, length, map, filter, Option, None, Some, refl, sym, ◌∙◌, ap, subst, inl, inr, append-nil, arith}
use Rattle.std.specs.List.{list_any, range_with_len, AllByRecursion}
use Rattle.std.specs.Option.{option_map_or, IsSomeAnd}
use Rattle.std.specs.Cmp.{tied_itself}
use Rattle.std.specs.Ordering.{nat_cmp, eq_by_cmp, is_eq, ordering_then}
use Rattle.std.specs.declared.cmp.Ordering.{Ordering}
use Rattle.std.specs.declared.cmp.Ordering.TheVariants.{Less, Equal, Greater}
use Rattle.std.proofs.lemmas.Bool.{false≢true, or_cases, or_left, or_right, eqb-true, eq-eqb}
use Rattle.std.proofs.lemmas.List.Folds.{list_any-append}
use Rattle.std.proofs.lemmas.List.Kept.{IsStrictlySortedBy-filter}
use Rattle.pj_tree.specs.declared.node.Node.{Node}
use Rattle.pj_tree.specs.Tree.{Tree, IsSyntaxTree, parent_of, is_parent, is_descendant}
use Rattle.pj_xexpressions.specs.declared.axis.Axis.TheVariants as axis
use Rattle.pj_xexpressions.specs.declared.expr.NodeTest.{NodeTest}
use Rattle.pj_xexpressions.specs.declared.expr.NodeTest.TheVariants as tests
use Rattle.pj_xvalue.specs.Items.{ItemValue, Document, Element, Attribute, String, Integer, Boolean, is_node, are_nodes}
use Rattle.pj_xaxes.specs.Axes.{axis_nodes, on_axis, node}
use Rattle.pj_xaxes.specs.Order.{document_order, has_item, ordered}
use Rattle.pj_xaxes.proofs.Ancestry.{below-parent}
use Rattle.pj_xaxes.proofs.Ordered.{IsNode, one_place, places_from, places-ordered, sorted-ordered, has_item-ordered}
use Rattle.pj_xaxes.proofs.Unique.{document_total, unique}
use Rattle.pj_xsteps.specs.Steps.{elements, passes, root}
use Rattle.pj_xeval.specs.Over.{stepped_at, stepped_at_each, has_some, may_go_down, above, above_some, items_above, AreParents}

abbrev same : ItemValue → ItemValue → Bool
same x y = eq_by_cmp document_order x y

are_from : (xs : List ItemValue) → AllByRecursion IsNode xs → IsTrue (are_nodes xs)
are_from [] h = refl
are_from (x ∷ xs) h = ap (λ (b : Bool). b && are_nodes xs) h.0 ∙ are_from xs h.1

filter-places : (p : ItemValue → Bool) (xs : List ItemValue) → AllByRecursion IsNode xs → AllByRecursion IsNode (filter p xs)
filter-places p [] h = tt
filter-places p (x ∷ xs) h = elim (p x) as (λ b. AllByRecursion IsNode (cond b (x ∷ filter p xs) (filter p xs))) [
  | true ↦ (h.0, filter-places p xs h.1)
  | false ↦ filter-places p xs h.1
]

-- ---- truths

both : (a b : Bool) → (a ≡ true → b ≡ true) → (b ≡ true → a ≡ true) → a ≡ b
both true b h k = sym (h refl)
both false true h k = k refl
both false false h k = refl

and-true : (a b : Bool) → (a && b) ≡ true → (a ≡ true) × (b ≡ true)
and-true true b h = (refl, h)
and-true false b h = absurd (false≢true h)

and-both : (a b : Bool) → a ≡ true → b ≡ true → (a && b) ≡ true
and-both a b h k = ap (λ (c : Bool). c && b) h ∙ k

and-false : (a : Bool) → (a && false) ≡ false
and-false true = refl
and-false false = refl

and-or : (a b c : Bool) → ((a && b) || (a && c)) ≡ (a && (b || c))
and-or true b c = refl
and-or false b c = refl

-- ---- ties

is_eq-true : (r : Ordering) → is_eq r ≡ true → r ≡ Equal
is_eq-true Less h = absurd (false≢true h)
is_eq-true Equal h = refl
is_eq-true Greater h = absurd (false≢true h)

same-is : (x y : ItemValue) → is_node x ≡ true → is_node y ≡ true → same x y ≡ true → x ≡ y
same-is x y p q h = one_place x y p q (is_eq-true (document_order x y) h)

same-self : (x y : ItemValue) → x ≡ y → same x y ≡ true
same-self x y e = subst (λ (z : ItemValue). same x z ≡ true) e (ap is_eq (tied_itself document_total x))

node-of : (k j : Node) → Element k ≡ Element j → k ≡ j
node-of k j e = cc

apart : (r : Ordering) → is_eq (ordering_then r Less) ≡ false
apart Less = refl
apart Equal = refl
apart Greater = refl

apart-behind : (r : Ordering) → is_eq (ordering_then r Greater) ≡ false
apart-behind Less = refl
apart-behind Equal = refl
apart-behind Greater = refl

-- ---- lists

any-map : {A B : Type 0} (p : B → Bool) (f : A → B) (xs : List A) → list_any p (map f xs) ≡ list_any (λ x. p (f x)) xs
any-map p f [] = refl
any-map p f (x ∷ xs) = ap (λ (b : Bool). p (f x) || b) (any-map p f xs)

some-any : (p : ItemValue → Bool) (xs : List ItemValue) → has_some (filter p xs) ≡ list_any p xs
some-any p [] = refl
some-any p (x ∷ xs) = elim (p x) as (λ b. has_some (cond b (x ∷ filter p xs) (filter p xs)) ≡ (b || list_any p xs)) [
  | true ↦ refl
  | false ↦ some-any p xs
]

passes-any : (t : Tree) (x : ItemValue) → passes t tests.AnyNode x ≡ true
passes-any t Document = refl
passes-any t (Element n) = refl
passes-any t (Attribute n place) = refl
passes-any t (String text) = refl
passes-any t (Integer z) = refl
passes-any t (Boolean b) = refl

filter-all : (t : Tree) (xs : List ItemValue) → filter (passes t tests.AnyNode) xs ≡ xs
filter-all t [] = refl
filter-all t (x ∷ xs) =
    ap (λ (b : Bool). cond b (x ∷ filter (passes t tests.AnyNode) xs) (filter (passes t tests.AnyNode) xs)) (passes-any t x) ∙ ap (λ (ys : List ItemValue). x ∷ ys) (filter-all t xs)

-- a number from one on whose node passes two tests
record Found (f r : Node → Bool) (low count : ℕ) : Type 0 where
  number : ℕ
  from : low ≤ number
  within : number < low + count
  passes : f (node number) ≡ true
  is : r (node number) ≡ true

further : (f r : Node → Bool) (low count : ℕ) → Found f r (low + 1) count → Found f r low (suc count)
further f r low count h = record { number = h.number; from = omega (arith, h.from); within = omega (arith, h.within); passes = h.passes; is = h.is }

found-in : (f r : Node → Bool) (low count : ℕ) → list_any r (filter f (map node (range_with_len low count))) ≡ true → Found f r low count
found-in f r low zero h = absurd (false≢true h)
found-in f r low (suc count) h =
    let rest = filter f (map node (range_with_len (low + 1) count)) in
    elim (f (node low)) as (λ b. f (node low) ≡ b → list_any r (cond b (node low ∷ rest) rest) ≡ true → Found f r low (suc count)) [
      | true ↦ λ is k. elim (or_cases (r (node low)) (list_any r rest) k) [
        | inl here ↦ record { number = low; from = omega arith; within = omega arith; passes = is; is = here }
        | inr later ↦ further f r low count (found-in f r (low + 1) count later)
      ]
      | false ↦ λ is k. further f r low count (found-in f r (low + 1) count k)
    ] refl h

in-later : (b : Bool) (r : Node → Bool) (x : Node) (xs : List Node) → list_any r xs ≡ true → list_any r (cond b (x ∷ xs) xs) ≡ true
in-later true r x xs h = or_right (r x) (list_any r xs) h
in-later false r x xs h = h

in-at : (f r : Node → Bool) (low count d : ℕ) → d < count → f (node (low + d)) ≡ true → r (node (low + d)) ≡ true → list_any r (filter f (map node (range_with_len low count))) ≡ true
in-at f r low zero d lt p is = absurd (omega arith)
in-at f r low (suc count) zero lt p is =
    let rest = filter f (map node (range_with_len (low + 1) count)) in
    let at : low + 0 ≡ low = omega arith in
    ap (λ (b : Bool). list_any r (cond b (node low ∷ rest) rest)) (subst (λ (k : ℕ). f (node k) ≡ true) at p)
    ∙ or_left (r (node low)) (list_any r rest) (subst (λ (k : ℕ). r (node k) ≡ true) at is)
in-at f r low (suc count) (suc d) lt p is =
    let at : low + suc d ≡ (low + 1) + d = omega arith in
    in-later (f (node low)) r (node low) (filter f (map node (range_with_len (low + 1) count)))
    (in-at f r (low + 1) count d (omega arith) (subst (λ (k : ℕ). f (node k) ≡ true) at p) (subst (λ (k : ℕ). r (node k) ≡ true) at is))

found-is : (f r : Node → Bool) (low count number : ℕ) → low ≤ number → number < low + count → f (node number) ≡ true → r (node number) ≡ true → list_any r (filter f (map node (range_with_len low count))) ≡ true
found-is f r low count number from within p is =
    let at : number ≡ low + (number - low) = omega arith in
    in-at f r low count (number - low) (omega arith) (subst (λ (k : ℕ). f (node k) ≡ true) at p) (subst (λ (k : ℕ). r (node k) ≡ true) at is)

-- ---- children and descendants by their numbers

children-any : (t : Tree) (test : NodeTest) (k : Node)
    → above_some t test (Element k) ≡ list_any (λ m. passes t test (Element m)) (filter (on_axis t axis.Child k) (map node (range_with_len 0 (length t.nodes))))
children-any t test k =
    ap (λ (xs : List ItemValue). has_some (filter (passes t test) xs)) (append-nil (elements (axis_nodes t axis.Child k)))
    ∙ some-any (passes t test) (elements (axis_nodes t axis.Child k))
    ∙ any-map (passes t test) (λ m. Element m) (axis_nodes t axis.Child k)

below-is : (t : Tree) (n : Node) → stepped_at t axis.DescendantOrSelf tests.AnyNode (Element n) ≡ elements (axis_nodes t axis.DescendantOrSelf n)
below-is t n = filter-all t (elements (axis_nodes t axis.DescendantOrSelf n) ++ []) ∙ append-nil (elements (axis_nodes t axis.DescendantOrSelf n))

below-any : (t : Tree) (n : Node) (x : ItemValue)
    → has_item (stepped_at t axis.DescendantOrSelf tests.AnyNode (Element n)) x ≡ list_any (λ j. same x (Element j)) (filter (on_axis t axis.DescendantOrSelf n) (map node (range_with_len 0 (length t.nodes))))
below-any t n x = ap (λ (xs : List ItemValue). has_item xs x) (below-is t n) ∙ any-map (same x) (λ m. Element m) (axis_nodes t axis.DescendantOrSelf n)

above-any : (t : Tree) (test : NodeTest) (low count : ℕ) (x : ItemValue)
    → has_item (items_above t test low count) x ≡ list_any (λ m. same x (above t m)) (filter (λ m. passes t test (Element m)) (map node (range_with_len low count)))
above-any t test low count x = any-map (same x) (above t) (filter (λ m. passes t test (Element m)) (map node (range_with_len low count)))

no-element : (x : ItemValue) (ms : List Node) → ((k : Node) → same x (Element k) ≡ false) → list_any (λ m. same x (Element m)) ms ≡ false
no-element x [] h = refl
no-element x (m ∷ ms) h = ap (λ (b : Bool). b || list_any (λ j. same x (Element j)) ms) (h m) ∙ no-element x ms h

-- ---- parents

record HasAbove (t : Tree) (number : ℕ) : Type 0 where
  parent : Node
  is : parent_of t (node number) ≡ Some parent
  before : parent.0 < number

parent_is : (o : Option Node) (n : Node) → is_parent n o ≡ true → o ≡ Some n
parent_is None n is = absurd (false≢true is)
parent_is (Some p) n is = (let e : p.0 ≡ n.0 = eqb-true p.0 n.0 is in ap (λ (x : ℕ). Some (node x)) e)

is-parent : (p n : Node) → p ≡ n → is_parent n (Some p) ≡ true
is-parent p n e = eq-eqb p.0 n.0 (ap (λ (x : Node). x.0) e)

module _ (t : Tree) (s : IsSyntaxTree t) where
  has-above : (number : ℕ) → 0 < number → number < length t.nodes → HasAbove t number
  has-above number some within =
      elim (parent_of t (node number)) as (λ o. parent_of t (node number) ≡ o → IsSomeAnd o (λ p. p.0 < number) → HasAbove t number) [
        | None ↦ λ is h. absurd h
        | Some p ↦ λ is h. record { parent = p; is = is; before = h }
      ] refl (s.below (node number) some within)

  above-is : (number : ℕ) (h : HasAbove t number) → above t (node number) ≡ Element h.parent
  above-is number h = ap (λ (o : Option Node). option_map_or (λ p. Element p) o Document) h.is

  above-node : (number : ℕ) → is_node (above t (node number)) ≡ true
  above-node number = elim (parent_of t (node number)) as (λ o. is_node (option_map_or (λ p. Element p) o Document) ≡ true) [
    | None ↦ refl
    | Some p ↦ refl
  ]

  nodes-above : (test : NodeTest) (low count : ℕ) → AllByRecursion IsNode (items_above t test low count)
  nodes-above test low zero = tt
  nodes-above test low (suc count) =
      let rest = filter (λ m. passes t test (Element m)) (map node (range_with_len (low + 1) count)) in
      elim (passes t test (Element (node low))) as (λ b. AllByRecursion IsNode (map (above t) (cond b (node low ∷ rest) rest))) [
        | true ↦ (above-node low, nodes-above test (low + 1) count)
        | false ↦ nodes-above test (low + 1) count
      ]

  module _ (test : NodeTest) (n : Node) (end : ℕ) (inside : n.0 < length t.nodes) (ended : end ≤ length t.nodes) (ends : (m : Node) → IsTrue (is_descendant t m n) ↔ ((n.0 < m.0) × (m.0 < end))) where
    up : (k : Node) (number : ℕ) → n.0 < number → number < end → passes t test (Element (node number)) ≡ true → same (Element k) (above t (node number)) ≡ true
        → (above_some t test (Element k) && has_item (stepped_at t axis.DescendantOrSelf tests.AnyNode (Element n)) (Element k)) ≡ true
    up k number low high p is =
        let a = has-above number (omega arith) (omega arith) in
        let at : same (Element k) (Element a.parent) ≡ true = subst (λ (x : ItemValue). same (Element k) x ≡ true) (above-is number a) is in
        let same_node : k ≡ a.parent = node-of k a.parent (same-is (Element k) (Element a.parent) refl refl at) in
        let below : is_descendant t (node number) n ≡ true = (ends (node number)).1 (low, high) in
        let child : is_parent k (parent_of t (node number)) ≡ true = ap (is_parent k) a.is ∙ is-parent a.parent k (sym same_node) in
        let on : on_axis t axis.DescendantOrSelf n (node a.parent.0) ≡ true = sym (below-parent t s number n.0 a.parent (omega arith) a.is) ∙ below in
        and-both (above_some t test (Element k)) (has_item (stepped_at t axis.DescendantOrSelf tests.AnyNode (Element n)) (Element k))
        (children-any t test k ∙ found-is (on_axis t axis.Child k) (λ m. passes t test (Element m)) 0 (length t.nodes) number (omega arith) (omega arith) child p)
        (below-any t n (Element k) ∙ found-is (on_axis t axis.DescendantOrSelf n) (λ j. same (Element k) (Element j)) 0 (length t.nodes) a.parent.0 (omega arith) (omega (arith, a.before)) on at)

    down : (k : Node) → (above_some t test (Element k) && has_item (stepped_at t axis.DescendantOrSelf tests.AnyNode (Element n)) (Element k)) ≡ true
        → Found (λ m. passes t test (Element m)) (λ m. same (Element k) (above t m)) (n.0 + 1) (end - (n.0 + 1))
    down k h =
        let two = and-true (above_some t test (Element k)) (has_item (stepped_at t axis.DescendantOrSelf tests.AnyNode (Element n)) (Element k)) h in
        let c = found-in (on_axis t axis.Child k) (λ m. passes t test (Element m)) 0 (length t.nodes) (sym (children-any t test k) ∙ two.0) in
        let j = found-in (on_axis t axis.DescendantOrSelf n) (λ j. same (Element k) (Element j)) 0 (length t.nodes) (sym (below-any t n (Element k)) ∙ two.1) in
        let same_node : k ≡ node j.number = node-of k (node j.number) (same-is (Element k) (Element (node j.number)) refl refl j.is) in
        let parent : parent_of t (node c.number) ≡ Some k = parent_is (parent_of t (node c.number)) k c.passes in
        let below : is_descendant t (node c.number) n ≡ true =
        below-parent t s c.number n.0 k (omega (arith, c.within)) parent ∙ subst (λ (x : Node). on_axis t axis.DescendantOrSelf n x ≡ true) (sym same_node) j.passes in
        let range = (ends (node c.number)).0 below in
        record {
          number = c.number;
          from = omega (arith, range.0);
          within = omega (arith, range.0, range.1);
          passes = c.is;
          is = same-self (Element k) (above t (node c.number)) (sym (ap (λ (o : Option Node). option_map_or (λ p. Element p) o Document) parent));
        }

    -- where all stand behind n, and the parents of all are elements
    members-behind : (k : Node) → has_item (items_above t test (n.0 + 1) (end - (n.0 + 1))) (Element k) ≡ (above_some t test (Element k) && has_item (stepped_at t axis.DescendantOrSelf tests.AnyNode (Element n)) (Element k))
    members-behind k =
        above-any t test (n.0 + 1) (end - (n.0 + 1)) (Element k)
        ∙ both (list_any (λ m. same (Element k) (above t m)) (filter (λ m. passes t test (Element m)) (map node (range_with_len (n.0 + 1) (end - (n.0 + 1))))))
        (above_some t test (Element k) && has_item (stepped_at t axis.DescendantOrSelf tests.AnyNode (Element n)) (Element k))
        (λ h. let f = found-in (λ m. passes t test (Element m)) (λ m. same (Element k) (above t m)) (n.0 + 1) (end - (n.0 + 1)) h in up k f.number (omega (arith, f.from)) (omega (arith, f.from, f.within)) f.passes f.is)
        (λ h. let f = down k h in found-is (λ m. passes t test (Element m)) (λ m. same (Element k) (above t m)) (n.0 + 1) (end - (n.0 + 1)) f.number f.from f.within f.passes f.is)

    -- no other node ties with an element
    none-behind : (x : ItemValue) → ((k : Node) → same x (Element k) ≡ false) → has_item (items_above t test (n.0 + 1) (end - (n.0 + 1))) x ≡ (above_some t test x && has_item (stepped_at t axis.DescendantOrSelf tests.AnyNode (Element n)) x)
    none-behind x h =
        above-any t test (n.0 + 1) (end - (n.0 + 1)) x
        ∙ both (list_any (λ m. same x (above t m)) (filter (λ m. passes t test (Element m)) (map node (range_with_len (n.0 + 1) (end - (n.0 + 1)))))) false
        (λ k.
        let f = found-in (λ m. passes t test (Element m)) (λ m. same x (above t m)) (n.0 + 1) (end - (n.0 + 1)) k in
        let a = has-above f.number (omega (arith, f.from)) (omega (arith, f.from, f.within)) in
        sym (h a.parent) ∙ subst (λ (y : ItemValue). same x y ≡ true) (above-is f.number a) f.is)
        (λ k. absurd (false≢true k))
        ∙ sym (and-false (above_some t test x))
        ∙ ap (λ (b : Bool). above_some t test x && b) (sym (below-any t n x ∙ no-element x (filter (on_axis t axis.DescendantOrSelf n) (map node (range_with_len 0 (length t.nodes)))) h))

    members-at : (x : ItemValue) → is_node x ≡ true → has_item (items_above t test (n.0 + 1) (end - (n.0 + 1))) x ≡ (above_some t test x && has_item (stepped_at t axis.DescendantOrSelf tests.AnyNode (Element n)) x)
    members-at (Element k) is = members-behind k
    members-at Document is = none-behind Document (λ k. refl)
    members-at (Attribute m place) is = none-behind (Attribute m place) (λ k. apart-behind (nat_cmp m.0 k.0))
    members-at (String text) is = absurd (false≢true is)
    members-at (Integer z) is = absurd (false≢true is)
    members-at (Boolean b) is = absurd (false≢true is)

    pub element-parents : AreParents t test (stepped_at t axis.DescendantOrSelf tests.AnyNode (Element n)) (items_above t test (n.0 + 1) (end - (n.0 + 1)))
    element-parents = record {
      nodes = are_from (items_above t test (n.0 + 1) (end - (n.0 + 1))) (nodes-above test (n.0 + 1) (end - (n.0 + 1)));
      members = members-at;
    }

-- an item of which there is nothing below
pub no-parents : (t : Tree) (test : NodeTest) (below : List ItemValue) → below ≡ [] → AreParents t test below []
no-parents t test below none = record {
  nodes = refl;
  members = λ x is. sym (and-false (above_some t test x)) ∙ ap (λ (xs : List ItemValue). above_some t test x && has_item xs x) (sym none);
}

attribute-members : (t : Tree) (test : NodeTest) (n : Node) (place : ℕ) (x : ItemValue) → false ≡ (above_some t test x && (same x (Attribute n place) || false))
attribute-members t test n place Document = sym (and-false (above_some t test Document))
attribute-members t test n place (Element k) = sym (and-false (above_some t test (Element k))) ∙ ap (λ (b : Bool). above_some t test (Element k) && (b || false)) (sym (apart (nat_cmp k.0 n.0)))
attribute-members t test n place (Attribute m other) = refl
attribute-members t test n place (String text) = refl
attribute-members t test n place (Integer z) = refl
attribute-members t test n place (Boolean b) = refl

pub attribute-parents : (t : Tree) (test : NodeTest) (n : Node) (place : ℕ) → AreParents t test (stepped_at t axis.DescendantOrSelf tests.AnyNode (Attribute n place)) []
attribute-parents t test n place = record { nodes = refl; members = λ x is. attribute-members t test n place x }

-- the document with the root below it
with-root : (p s g d : Bool) → (s ≡ true → g ≡ p) → ((p && s) || (g && d)) ≡ (g && (s || d))
with-root p true g d h = elim p as (λ b. g ≡ b → ((b && true) || (g && d)) ≡ (g && true)) [
  | true ↦ λ is. sym (ap (λ (c : Bool). c && true) is)
  | false ↦ λ is. ap (λ (c : Bool). c && d) is ∙ sym (ap (λ (c : Bool). c && true) is)
] (h refl)
with-root p false g d h = ap (λ (c : Bool). c || (g && d)) (and-false p)

root-first : (b : Bool) (x y : ItemValue) (r : Node) (f : Node → ItemValue) (ms : List Node) → f r ≡ y → has_item (map f (cond b (r ∷ ms) ms)) x ≡ ((b && same x y) || has_item (map f ms) x)
root-first true x y r f ms is = ap (λ (z : ItemValue). same x z || has_item (map f ms) x) is
root-first false x y r f ms is = refl

root-test : (b : Bool) → has_some (cond b (Element root ∷ []) []) ≡ b
root-test true = refl
root-test false = refl

document-is : (t : Tree) (test : NodeTest) (x : ItemValue) → is_node x ≡ true → same x Document ≡ true → above_some t test x ≡ passes t test (Element root)
document-is t test x is tie = ap (above_some t test) (same-is x Document is refl tie) ∙ root-test (passes t test (Element root))

document-here : (t : Tree) (s : IsSyntaxTree t) (test : NodeTest) (count : ℕ) → AreParents t test (stepped_at t axis.DescendantOrSelf tests.AnyNode (Element root)) (items_above t test 1 count)
    → AreParents t test (stepped_at t axis.DescendantOrSelf tests.AnyNode Document) (items_above t test 0 (suc count))
document-here t s test count rest =
    let ms = filter (λ m. passes t test (Element m)) (map node (range_with_len 1 count)) in
    let at : above t root ≡ Document = ap (λ (o : Option Node). option_map_or (λ p. Element p) o Document) s.root in
    record {
      nodes = are_from (items_above t test 0 (suc count)) (nodes-above t s test 0 (suc count));
      members = λ x is.
          root-first (passes t test (Element root)) x Document root (above t) ms at
          ∙ ap (λ (b : Bool). (passes t test (Element root) && same x Document) || b) (rest.members x is)
          ∙ with-root (passes t test (Element root)) (same x Document) (above_some t test x) (has_item (stepped_at t axis.DescendantOrSelf tests.AnyNode (Element root)) x) (document-is t test x is)
          ∙ ap (λ (xs : List ItemValue). above_some t test x && (same x Document || has_item xs x)) (below-is t root)
          ∙ ap (λ (xs : List ItemValue). above_some t test x && has_item xs x) (sym (filter-all t (Document ∷ elements (axis_nodes t axis.DescendantOrSelf root))));
    }

pub document-parents : (t : Tree) (s : IsSyntaxTree t) (test : NodeTest) (end : ℕ) → end ≤ length t.nodes → ((m : Node) → IsTrue (is_descendant t m root) ↔ ((0 < m.0) × (m.0 < end))) → 0 < end
    → AreParents t test (stepped_at t axis.DescendantOrSelf tests.AnyNode Document) (items_above t test 0 (end - 0))
document-parents t s test end ended ends some =
    let rest = element-parents t s test root end (omega arith) ended ends in
    subst (λ (k : ℕ). AreParents t test (stepped_at t axis.DescendantOrSelf tests.AnyNode Document) (items_above t test 0 k)) {x = suc (end - (0 + 1))} {y = end - 0} (omega arith) (document-here t s test (end - (0 + 1)) rest)

nodes-append : (xs ys : List ItemValue) → AllByRecursion IsNode xs → AllByRecursion IsNode ys → AllByRecursion IsNode (xs ++ ys)
nodes-append [] ys h k = k
nodes-append (x ∷ xs) ys h k = (h.0, nodes-append xs ys h.1 k)

-- of two lists of items
pub joined-parents : (t : Tree) (test : NodeTest) (below more parents others : List ItemValue) → AreParents t test below parents → AreParents t test more others → AreParents t test (below ++ more) (parents ++ others)
joined-parents t test below more parents others h k = record {
  nodes = are_from (parents ++ others) (nodes-append parents others (places_from parents h.nodes) (places_from others k.nodes));
  members = λ x is.
      list_any-append (same x) parents others ∙ (λ i. h.members x is i || k.members x is i)
      ∙ and-or (above_some t test x) (has_item below x) (has_item more x) ∙ ap (λ (b : Bool). above_some t test x && b) (sym (list_any-append (same x) below more));
}

-- ---- what is at or below nodes

elements-nodes : (ms : List Node) → AllByRecursion IsNode (elements ms)
elements-nodes [] = tt
elements-nodes (m ∷ ms) = (refl, elements-nodes ms)

below-nodes : (t : Tree) (x : ItemValue) → AllByRecursion IsNode (stepped_at t axis.DescendantOrSelf tests.AnyNode x)
below-nodes t Document = filter-places (passes t tests.AnyNode) (Document ∷ elements (axis_nodes t axis.DescendantOrSelf root)) (refl, elements-nodes (axis_nodes t axis.DescendantOrSelf root))
below-nodes t (Element n) = filter-places (passes t tests.AnyNode) (elements (axis_nodes t axis.DescendantOrSelf n) ++ []) (nodes-append (elements (axis_nodes t axis.DescendantOrSelf n)) [] (elements-nodes (axis_nodes t axis.DescendantOrSelf n)) tt)
below-nodes t (Attribute n place) = (refl, tt)
below-nodes t (String text) = tt
below-nodes t (Integer z) = tt
below-nodes t (Boolean b) = tt

below-each : (t : Tree) (xs : List ItemValue) → AllByRecursion IsNode (stepped_at_each t axis.DescendantOrSelf tests.AnyNode xs)
below-each t [] = tt
below-each t (x ∷ xs) = nodes-append (stepped_at t axis.DescendantOrSelf tests.AnyNode x) (stepped_at_each t axis.DescendantOrSelf tests.AnyNode xs) (below-nodes t x) (below-each t xs)

pub below-are_nodes : (t : Tree) (xs : List ItemValue) → IsTrue (are_nodes (stepped_at_each t axis.DescendantOrSelf tests.AnyNode xs))
below-are_nodes t xs = are_from (stepped_at_each t axis.DescendantOrSelf tests.AnyNode xs) (below-each t xs)

-- ---- all in document order

kept-one : (p s q k : Bool) (x y : ItemValue) (xs : List ItemValue) → (s ≡ true → q ≡ p) → same x y ≡ s → has_item xs x ≡ (q && k) → has_item (cond p (y ∷ xs) xs) x ≡ (q && (s || k))
kept-one true true q k x y xs e tie rest = ap (λ (b : Bool). b || has_item xs x) tie ∙ sym (ap (λ (b : Bool). b && true) (e refl))
kept-one true false q k x y xs e tie rest = ap (λ (b : Bool). b || has_item xs x) tie ∙ rest
kept-one false true q k x y xs e tie rest = rest ∙ ap (λ (b : Bool). b && k) (e refl) ∙ sym (ap (λ (b : Bool). b && true) (e refl))
kept-one false false q k x y xs e tie rest = rest

kept-members : (p : ItemValue → Bool) (x : ItemValue) (xs : List ItemValue) → is_node x ≡ true → AllByRecursion IsNode xs → has_item (filter p xs) x ≡ (p x && has_item xs x)
kept-members p x [] is h = sym (and-false (p x))
kept-members p x (y ∷ xs) is h =
    kept-one (p y) (same x y) (p x) (has_item xs x) x y (filter p xs) (λ tie. ap p (same-is x y is h.0 tie)) refl (kept-members p x xs is h.1)

may-node : (t : Tree) (test : NodeTest) (x : ItemValue) → is_node x ≡ true → may_go_down t test x ≡ above_some t test x
may-node t test x is = ap (λ (b : Bool). not b || above_some t test x) is

module _ (t : Tree) (test : NodeTest) (below parents : List ItemValue) (h : AreParents t test below parents) (all : IsTrue (are_nodes below)) where
  node-members : (x : ItemValue) → is_node x ≡ true → has_item (ordered parents) x ≡ has_item (filter (may_go_down t test) (ordered below)) x
  node-members x is =
      has_item-ordered parents x ∙ h.members x is
      ∙ sym (λ i. may-node t test x is i && has_item-ordered below x i)
      ∙ sym (kept-members (may_go_down t test) x (ordered below) is (places-ordered below (places_from below all)))

  -- an atomic value stands where the document does
  all-members : (x : ItemValue) → has_item (ordered parents) x ≡ has_item (filter (may_go_down t test) (ordered below)) x
  all-members Document = node-members Document refl
  all-members (Element n) = node-members (Element n) refl
  all-members (Attribute n place) = node-members (Attribute n place) refl
  all-members (String text) = node-members Document refl
  all-members (Integer z) = node-members Document refl
  all-members (Boolean b) = node-members Document refl

  -- the parents in document order
  pub ordered-parents : ordered parents ≡ filter (may_go_down t test) (ordered below)
  ordered-parents =
      unique document_order document_total IsNode one_place (ordered parents) (filter (may_go_down t test) (ordered below)) (places-ordered parents (places_from parents h.nodes))
      (filter-places (may_go_down t test) (ordered below) (places-ordered below (places_from below all)))
      (sorted-ordered parents) (IsStrictlySortedBy-filter document_order (may_go_down t test) (ordered below) (sorted-ordered below)) (record { each = all-members })

-- ---- one number more

front-above : (b : Bool) (f : Node → ItemValue) (m : Node) (ms : List Node) → map f (cond b (m ∷ ms) ms) ≡ cond b (f m ∷ map f ms) (map f ms)
front-above true f m ms = refl
front-above false f m ms = refl

next-above : (t : Tree) (test : NodeTest) (low high : ℕ) → low < high
    → items_above t test low (high - low) ≡ cond (passes t test (Element (node low))) (above t (node low) ∷ items_above t test (low + 1) (high - (low + 1))) (items_above t test (low + 1) (high - (low + 1)))
next-above t test low high lt =
    let at : high - low ≡ suc (high - (low + 1)) = omega arith in
    ap (items_above t test low) at ∙ front-above (passes t test (Element (node low))) (above t) (node low) (filter (λ m. passes t test (Element m)) (map node (range_with_len (low + 1) (high - (low + 1)))))

one-above : (b : Bool) (f : Node → ItemValue) (m : Node) (rest : List ItemValue) → map f (cond b (m ∷ []) []) ++ rest ≡ cond b (f m ∷ rest) rest
one-above true f m rest = refl
one-above false f m rest = refl

-- the first number, and those behind it
pub step-above : (t : Tree) (test : NodeTest) (low high : ℕ) → low < high
    → map (above t) (filter (λ m. passes t test (Element m)) (node low ∷ [])) ++ items_above t test (low + 1) (high - (low + 1)) ≡ items_above t test low (high - low)
step-above t test low high lt = one-above (passes t test (Element (node low))) (above t) (node low) (items_above t test (low + 1) (high - (low + 1))) ∙ sym (next-above t test low high lt)

pub none-above : (t : Tree) (test : NodeTest) (low high : ℕ) → high ≤ low → items_above t test low (high - low) ≡ []
none-above t test low high lt = (let at : high - low ≡ 0 = omega arith in ap (items_above t test low) at)
