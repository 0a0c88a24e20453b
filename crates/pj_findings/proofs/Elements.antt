-- The elements among items in document order.
use Rattle.std.proofs.Common.{◌≡◌, ◌∙◌, ◌==◌, ◌||◌, ◌++◌, ◌&&◌, ℕ, Bool, true, false, cond, IsTrue, List, [], ◌∷◌, Result, Ok, Err, ap, arith, flat_map, not, refl, subst, sym, true≢false}
use Rattle.std.specs.Prelude.{nat_lt}
use Rattle.std.proofs.lemmas.Bool.Decides.{nat_tests}
use Rattle.std.specs.List.{AllByRecursion, list_all, list_any}
use Rattle.std.specs.List.Sorted.{IsStrictlySortedBy}
use Rattle.std.specs.Ordering.{eq_by_cmp, is_eq, nat_cmp, on, ordering_then}
use Rattle.std.specs.declared.cmp.Ordering.{Ordering}
use Rattle.std.specs.declared.cmp.Ordering.TheVariants.{Less, Equal, Greater}
use Rattle.pj_tree.specs.declared.node.Node.{Node}
use Rattle.pj_xaxes.specs.Order.{document_order, has_item, ordered}
use Rattle.pj_xaxes.proofs.Ordered.{has_item-ordered, sorted-ordered}
use Rattle.pj_xvalue.specs.declared.item.Item.{Item}
use Rattle.pj_xvalue.specs.Items.{ItemValue, Document, Element, Attribute, String, Integer, Boolean, is_node, value_of_item, values_of}
use Rattle.pj_xvalue.specs.declared.fault.XCode.{XCode}
use Rattle.pj_xvalue.specs.declared.fault.XCode.TheVariants.{XPTY0004}
use Rattle.pj_findings.specs.Denoted.{denoted, element_in, is_element}

-- ---- what the code asks of the items is asked of their values

pub all_values : (p : ItemValue → Bool) (items : List Item) → list_all (λ item. p (value_of_item item)) items ≡ list_all p (values_of items)
all_values p [] = refl
all_values p (item ∷ items) = ap (λ b. p (value_of_item item) && b) (all_values p items)

pub elements_of_values : (items : List Item) → flat_map (λ item. element_in (value_of_item item)) items ≡ flat_map element_in (values_of items)
elements_of_values [] = refl
elements_of_values (item ∷ items) = ap (λ l. element_in (value_of_item item) ++ l) (elements_of_values items)

-- elements are nodes
pub elements_are_nodes : (items : List ItemValue) → list_all is_element items ≡ true → list_all is_node items ≡ true
elements_are_nodes [] h = refl
elements_are_nodes (Element n ∷ items) h = elements_are_nodes items h
elements_are_nodes (Document ∷ items) h = absurd (true≢false (sym h))
elements_are_nodes (Attribute n place ∷ items) h = absurd (true≢false (sym h))
elements_are_nodes (String text ∷ items) h = absurd (true≢false (sym h))
elements_are_nodes (Integer z ∷ items) h = absurd (true≢false (sym h))
elements_are_nodes (Boolean b ∷ items) h = absurd (true≢false (sym h))

-- ---- the order of nodes is that of their numbers

abbrev by_number : Node → Node → Ordering
by_number = on (λ (n : Node). n.0) nat_cmp

then_equal : (o : Ordering) → ordering_then o Equal ≡ o
then_equal Less = refl
then_equal Equal = refl
then_equal Greater = refl

never_equal : (o : Ordering) → is_eq (ordering_then o Less) ≡ false
never_equal Less = refl
never_equal Equal = refl
never_equal Greater = refl

element_order : (m n : Node) → document_order (Element m) (Element n) ≡ Less → by_number m n ≡ Less
element_order m n h = sym (then_equal (nat_cmp m.0 n.0)) ∙ h

elements_behind : (m : Node) (xs : List ItemValue) → AllByRecursion (λ x. document_order (Element m) x ≡ Less) xs → AllByRecursion (λ n. by_number m n ≡ Less) (flat_map element_in xs)
elements_behind m [] h = tt
elements_behind m (Element n ∷ xs) h = (element_order m n h.0, elements_behind m xs h.1)
elements_behind m (Document ∷ xs) h = elements_behind m xs h.1
elements_behind m (Attribute n place ∷ xs) h = elements_behind m xs h.1
elements_behind m (String text ∷ xs) h = elements_behind m xs h.1
elements_behind m (Integer z ∷ xs) h = elements_behind m xs h.1
elements_behind m (Boolean b ∷ xs) h = elements_behind m xs h.1

elements_sorted : (xs : List ItemValue) → IsStrictlySortedBy document_order xs → IsStrictlySortedBy by_number (flat_map element_in xs)
unfolding IsStrictlySortedBy
elements_sorted [] h = tt
elements_sorted (Element m ∷ xs) h = (elements_behind m xs h.0, elements_sorted xs h.1)
elements_sorted (Document ∷ xs) h = elements_sorted xs h.1
elements_sorted (Attribute m place ∷ xs) h = elements_sorted xs h.1
elements_sorted (String text ∷ xs) h = elements_sorted xs h.1
elements_sorted (Integer z ∷ xs) h = elements_sorted xs h.1
elements_sorted (Boolean b ∷ xs) h = elements_sorted xs h.1

-- ---- the elements are the items

eq_of_numbers : (x y : ℕ) → is_eq (nat_cmp x y) ≡ (not (nat_lt x y) && (x == y))
eq_of_numbers x y = elim (nat_lt x y) as (λ t. is_eq (cond t Less (cond (x == y) Equal Greater)) ≡ (not t && (x == y))) [
  | true ↦ refl
  | false ↦ elim (x == y) as (λ t. is_eq (cond t Equal Greater) ≡ t) [ true ↦ refl | false ↦ refl ]
]

one_test : (x y : ℕ) → (not (nat_lt x y) && (x == y)) ≡ (y == x)
one_test x y = grind (arith, nat_tests)

same_number : (m n : Node) → (m.0 == n.0) ≡ eq_by_cmp document_order (Element n) (Element m)
same_number m n = sym (ap is_eq (then_equal (nat_cmp n.0 m.0)) ∙ eq_of_numbers n.0 m.0 ∙ one_test n.0 m.0)

any_element : (n : Node) (xs : List ItemValue) → list_any (λ (m : Node). m.0 == n.0) (flat_map element_in xs) ≡ has_item xs (Element n)
any_element n [] = refl
any_element n (Element m ∷ xs) = λ i. same_number m n i || any_element n xs i
any_element n (Document ∷ xs) = any_element n xs
any_element n (Attribute m place ∷ xs) = any_element n xs ∙ ap (λ b. b || has_item xs (Element n)) (sym (never_equal (nat_cmp n.0 m.0)))
any_element n (String text ∷ xs) = any_element n xs
any_element n (Integer z ∷ xs) = any_element n xs
any_element n (Boolean b ∷ xs) = any_element n xs

-- ---- the nodes of a query

pub denoted_ok : (items : List ItemValue) (nodes : List Node) → IsTrue (list_all is_element items) → nodes ≡ flat_map element_in (ordered items) → Ok nodes ≡ denoted items
denoted_ok items nodes all is = let given : List Node → Result (List Node) XCode = λ l. Ok l in ap given is ∙ sym (ap (λ b. cond b (Ok (flat_map element_in (ordered items))) (Err XPTY0004)) all)

pub denoted_err : (items : List ItemValue) → list_all is_element items ≡ false → Err XPTY0004 ≡ denoted items
denoted_err items some = sym (ap (λ b. cond b (Ok (flat_map element_in (ordered items))) (Err XPTY0004)) some)

denoted_is : (items : List ItemValue) (nodes : List Node) → denoted items ≡ Ok nodes → flat_map element_in (ordered items) ≡ nodes
denoted_is items nodes h = elim (list_all is_element items) as (λ b. cond b (Ok (flat_map element_in (ordered items))) (Err XPTY0004) ≡ Ok nodes → flat_map element_in (ordered items) ≡ nodes) [
  | true ↦ λ e. cc
  | false ↦ λ e. absurd (cc)
] h

pub nodes_ascend : (items : List ItemValue) (nodes : List Node) → denoted items ≡ Ok nodes → IsStrictlySortedBy by_number nodes
nodes_ascend items nodes h = subst (λ (l : List Node). IsStrictlySortedBy by_number l) (denoted_is items nodes h) (elements_sorted (ordered items) (sorted-ordered items))

pub nodes_are_items : (items : List ItemValue) (nodes : List Node) (n : Node) → denoted items ≡ Ok nodes → list_any (λ (m : Node). m.0 == n.0) nodes ≡ has_item items (Element n)
nodes_are_items items nodes n h = ap (λ (l : List Node). list_any (λ (m : Node). m.0 == n.0) l) (sym (denoted_is items nodes h)) ∙ any_element n (ordered items) ∙ has_item-ordered items (Element n)
