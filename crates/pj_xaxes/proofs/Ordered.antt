-- What `ordered` gives, and what a sort and a `dedup` give.
use Rattle.std.proofs.Common.{◌≡◌, ℕ, ◌+◌, length, arith, Bool, true, false, ◌||◌, ◌&&◌, cond, List, [], ◌∷◌, map, refl, sym, ◌∙◌, ap, true≢false, IsTrue}
use Rattle.std.specs.Prelude.{filter}
use Rattle.std.specs.List.{list_all, AllAdjacentBelow, AllByRecursion, dedup, dedup_from}
use Rattle.std.specs.List.Sorted.{IsStrictlySortedBy, IsSorted, IsPermutation}
use Rattle.std.specs.Ordering.{nat_cmp, eq_by_cmp, is_eq, is_lt, ordering_reverse, ordering_then, on}
use Rattle.std.specs.FinMap.{nat_cmp-IsAntisymmetric}
use Rattle.std.proofs.lemmas.Map.Views.{any-filter_same}
use Rattle.std.proofs.lemmas.Map.Keys.{sorted_from_all_adjacent}
use Rattle.std.specs.declared.cmp.Ordering.{Ordering}
use Rattle.std.specs.declared.cmp.Ordering.TheVariants.{Less, Equal, Greater}
use Rattle.std.proofs.lemmas.List.Sorted.{list_any-IsPermutation, All-permutation, IsPermutation-map}
use Rattle.std.proofs.lemmas.List.{length-map, get_or-map}
use Rattle.std.proofs.lemmas.List.Kept.{IsStrictlySortedBy-dedup, IsStrictlySortedBy-filter}
use Rattle.std.proofs.lemmas.List.Elements.{All-from_recursion, recursion_from_All}
use Rattle.pj_xvalue.specs.declared.item.Item.{Item}
use Rattle.pj_xvalue.specs.declared.item.Item.TheVariants as item
use Rattle.pj_xvalue.specs.Items.{ItemValue, Document, Element, Attribute, String, Integer, Boolean, is_node, value_of_item, values_of, are_nodes}
use Rattle.pj_xaxes.specs.Order.{document_order, put, put_by, ordered, has_item}
use Rattle.pj_xaxes.proofs.Unique.{document_total, unique}

-- putting an item

above_put : (z x : ItemValue) (ys : List ItemValue) → document_order z x ≡ Less → AllByRecursion (λ y. document_order z y ≡ Less) ys → AllByRecursion (λ y. document_order z y ≡ Less) (put x ys)
above_put z x [] l h = (l, tt)
above_put z x (y ∷ ys) l h = elim (document_order x y) as (λ r. AllByRecursion (λ w. document_order z w ≡ Less) (put_by r x y ys (put x ys))) [
  | Less ↦ (l, h)
  | Equal ↦ h
  | Greater ↦ (h.0, above_put z x ys l h.1)
]

lower : (x y : ItemValue) (ys : List ItemValue) → document_order x y ≡ Less → AllByRecursion (λ z. document_order y z ≡ Less) ys → AllByRecursion (λ z. document_order x z ≡ Less) ys
lower x y [] l h = tt
lower x y (z ∷ ys) l h = (document_total.trans x y z l h.0, lower x y ys l h.1)

sorted-put : (x : ItemValue) (ys : List ItemValue) → IsStrictlySortedBy document_order ys → IsStrictlySortedBy document_order (put x ys)
unfolding IsStrictlySortedBy
sorted-put x [] h = (tt, tt)
sorted-put x (y ∷ ys) h = elim (document_order x y) as (λ r. document_order x y ≡ r → IsStrictlySortedBy document_order (put_by r x y ys (put x ys))) [
  | Less ↦ λ l. ((l, lower x y ys l h.0), h)
  | Equal ↦ λ e. h
  | Greater ↦ λ g. (above_put y x ys (document_total.antisymm y x ∙ ap ordering_reverse g) h.0, sorted-put x ys h.1)
] refl

or_again : (a c : Bool) → (a || c) ≡ (a || (a || c))
or_again true c = refl
or_again false c = refl

or_swap : (a b c : Bool) → (a || (b || c)) ≡ (b || (a || c))
or_swap true true c = refl
or_swap true false c = refl
or_swap false b c = refl

tied : (q x y : ItemValue) → document_order x y ≡ Equal → eq_by_cmp document_order q y ≡ eq_by_cmp document_order q x
tied q x y e = ap is_eq (document_total.antisymm q y ∙ ap ordering_reverse (sym (document_total.congr x y q e)) ∙ sym (document_total.antisymm q x))

has_item-put : (q x : ItemValue) (ys : List ItemValue) → has_item (put x ys) q ≡ (eq_by_cmp document_order q x || has_item ys q)
has_item-put q x [] = refl
has_item-put q x (y ∷ ys) = elim (document_order x y) as (λ r. document_order x y ≡ r → has_item (put_by r x y ys (put x ys)) q ≡ (eq_by_cmp document_order q x || (eq_by_cmp document_order q y || has_item ys q))) [
  | Less ↦ λ l. refl
  | Equal ↦ λ e. ap (λ b. b || has_item ys q) (tied q x y e) ∙ or_again (eq_by_cmp document_order q x) (has_item ys q) ∙ ap (λ b. eq_by_cmp document_order q x || (b || has_item ys q)) (sym (tied q x y e))
  | Greater ↦ λ g. ap (λ b. eq_by_cmp document_order q y || b) (has_item-put q x ys) ∙ or_swap (eq_by_cmp document_order q y) (eq_by_cmp document_order q x) (has_item ys q)
] refl

abbrev pub IsNode : ItemValue → Type 0
IsNode x = is_node x ≡ true

places-put : (x : ItemValue) (ys : List ItemValue) → IsNode x → AllByRecursion IsNode ys → AllByRecursion IsNode (put x ys)
places-put x [] p h = (p, tt)
places-put x (y ∷ ys) p h = elim (document_order x y) as (λ r. AllByRecursion IsNode (put_by r x y ys (put x ys))) [
  | Less ↦ (p, h)
  | Equal ↦ h
  | Greater ↦ (h.0, places-put x ys p h.1)
]

-- all of them

pub sorted-ordered : (xs : List ItemValue) → IsStrictlySortedBy document_order (ordered xs)
unfolding ordered IsStrictlySortedBy
sorted-ordered [] = tt
sorted-ordered (x ∷ xs) = sorted-put x (ordered xs) (sorted-ordered xs)

pub has_item-ordered : (xs : List ItemValue) (q : ItemValue) → has_item (ordered xs) q ≡ has_item xs q
unfolding ordered
has_item-ordered [] q = refl
has_item-ordered (x ∷ xs) q = has_item-put q x (ordered xs) ∙ ap (λ b. eq_by_cmp document_order q x || b) (has_item-ordered xs q)

pub places-ordered : (xs : List ItemValue) → AllByRecursion IsNode xs → AllByRecursion IsNode (ordered xs)
unfolding ordered
places-ordered [] h = tt
places-ordered (x ∷ xs) h = places-put x (ordered xs) h.0 (places-ordered xs h.1)

-- the clause's condition, place by place
pub places_from : (xs : List ItemValue) → list_all is_node xs ≡ true → AllByRecursion IsNode xs
places_from [] h = tt
places_from (x ∷ xs) h = elim (is_node x) as (λ b. is_node x ≡ b → (b && list_all is_node xs) ≡ true → AllByRecursion IsNode (x ∷ xs)) [
  | true ↦ λ is rest. (is, places_from xs rest)
  | false ↦ λ is rest. absurd (true≢false (sym rest))
] refl h

-- a sort and a `dedup`

abbrev same : ItemValue → ItemValue → Bool
same x y = eq_by_cmp document_order x y

same_tied : (q x k : ItemValue) → same x k ≡ true → same q x ≡ same q k
same_tied q x k e = elim (document_order x k) as (λ r. document_order x k ≡ r → is_eq r ≡ true → same q x ≡ same q k) [
  | Less ↦ λ is f. absurd (true≢false (sym f))
  | Equal ↦ λ is f. sym (tied q x k is)
  | Greater ↦ λ is f. absurd (true≢false (sym f))
] refl e

has_item-dedup_from : (q k : ItemValue) (xs : List ItemValue) → has_item (dedup_from same k xs) q ≡ (same q k || has_item xs q)
has_item-dedup_from q k [] = refl
has_item-dedup_from q k (x ∷ xs) = elim (same x k) as (λ b. same x k ≡ b → has_item (cond b (dedup_from same k xs) (k ∷ dedup_from same x xs)) q ≡ (same q k || (same q x || has_item xs q))) [
  | true ↦ λ e. has_item-dedup_from q k xs ∙ or_again (same q k) (has_item xs q) ∙ ap (λ b. same q k || (b || has_item xs q)) (sym (same_tied q x k e))
  | false ↦ λ e. ap (λ b. same q k || b) (has_item-dedup_from q x xs)
] refl

has_item-dedup : (q : ItemValue) (xs : List ItemValue) → has_item (dedup same xs) q ≡ has_item xs q
has_item-dedup q [] = refl
has_item-dedup q (x ∷ xs) = has_item-dedup_from q x xs

places-dedup_from : (k : ItemValue) (xs : List ItemValue) → IsNode k → AllByRecursion IsNode xs → AllByRecursion IsNode (dedup_from same k xs)
places-dedup_from k [] p h = (p, tt)
places-dedup_from k (x ∷ xs) p h = elim (same x k) as (λ b. AllByRecursion IsNode (cond b (dedup_from same k xs) (k ∷ dedup_from same x xs))) [
  | true ↦ places-dedup_from k xs p h.1
  | false ↦ (p, places-dedup_from x xs h.0 h.1)
]

places-dedup : (xs : List ItemValue) → AllByRecursion IsNode xs → AllByRecursion IsNode (dedup same xs)
places-dedup [] h = tt
places-dedup (x ∷ xs) h = places-dedup_from x xs h.0 h.1

-- two places that tie are one
both_equal : (r s : Ordering) → ordering_then r s ≡ Equal → (r ≡ Equal) × (s ≡ Equal)
both_equal Less s e = absurd (true≢false (sym (ap is_eq e)))
both_equal Equal s e = (refl, e)
both_equal Greater s e = absurd (true≢false (sym (ap is_eq e)))

differ : {A : Type 0} (r : Ordering) → is_eq r ≡ false → r ≡ Equal → A
differ r f e = absurd (true≢false (sym (ap is_eq e) ∙ f))

pub one_place : (x y : ItemValue) → IsNode x → IsNode y → document_order x y ≡ Equal → x ≡ y
one_place Document Document p q e = refl
one_place Document (Element m) p q e = differ Less refl e
one_place Document (Attribute m k) p q e = differ Less refl e
one_place (Element n) Document p q e = differ Greater refl e
one_place (Element n) (Element m) p q e = ap (λ (x : ℕ). Element (record { 0 = x })) (nat_cmp-IsAntisymmetric n.0 m.0 (both_equal (nat_cmp n.0 m.0) Equal e).0)
one_place (Element n) (Attribute m k) p q e = differ Less refl (both_equal (nat_cmp n.0 m.0) Less e).1
one_place (Attribute n j) Document p q e = differ Greater refl e
one_place (Attribute n j) (Element m) p q e = differ Greater refl (both_equal (nat_cmp n.0 m.0) Greater e).1
one_place (Attribute n j) (Attribute m k) p q e =
    let b = both_equal (nat_cmp n.0 m.0) (nat_cmp j k) e in
    (λ i. Attribute (record { 0 = nat_cmp-IsAntisymmetric n.0 m.0 b.0 i }) (nat_cmp-IsAntisymmetric j k b.1 i))
one_place Document (String s) p q e = absurd (true≢false (sym q))
one_place Document (Integer z) p q e = absurd (true≢false (sym q))
one_place Document (Boolean b) p q e = absurd (true≢false (sym q))
one_place (Element n) (String s) p q e = absurd (true≢false (sym q))
one_place (Element n) (Integer z) p q e = absurd (true≢false (sym q))
one_place (Element n) (Boolean b) p q e = absurd (true≢false (sym q))
one_place (Attribute n j) (String s) p q e = absurd (true≢false (sym q))
one_place (Attribute n j) (Integer z) p q e = absurd (true≢false (sym q))
one_place (Attribute n j) (Boolean b) p q e = absurd (true≢false (sym q))
one_place (String s) y p q e = absurd (true≢false (sym p))
one_place (Integer z) y p q e = absurd (true≢false (sym p))
one_place (Boolean b) y p q e = absurd (true≢false (sym p))

in_values : (xs s d : List ItemValue) → IsPermutation xs s → IsSorted document_order s → d ≡ dedup same s → list_all is_node xs ≡ true → d ≡ ordered xs
in_values xs s d moved up is all =
    let ps = places_from xs all in
    let qs = recursion_from_All IsNode s (All-permutation IsNode xs s moved (All-from_recursion IsNode xs ps)) in
    is ∙ unique document_order document_total IsNode one_place (dedup same s) (ordered xs) (places-dedup s qs) (places-ordered xs ps)
    (IsStrictlySortedBy-dedup document_total (λ x y. refl) s up) (sorted-ordered xs)
    (record { each = λ q. has_item-dedup q s ∙ sym (list_any-IsPermutation (eq_by_cmp document_order q) xs s moved) ∙ sym (has_item-ordered xs q) })

-- the same of items, by what they are as values

-- a list of items that is sorted by their values, as the list of these
values_sorted : (s : List Item) → IsSorted (on value_of_item document_order) s → IsSorted document_order (map value_of_item s)
values_sorted s up = λ k d low high.
    let len : length (map value_of_item s) ≡ length s = length-map s value_of_item in
    rw (get_or-map value_of_item s (k + 1) item.Document d (omega (arith, len)), get_or-map value_of_item s k item.Document d (omega (arith, len))) (up k item.Document low (omega (arith, len)))

values_dedup_from : (k : Item) (s : List Item) → map value_of_item (dedup_from (λ x y. same (value_of_item x) (value_of_item y)) k s) ≡ dedup_from same (value_of_item k) (map value_of_item s)
values_dedup_from k [] = refl
values_dedup_from k (x ∷ xs) = elim (same (value_of_item x) (value_of_item k)) as (λ b. map value_of_item (cond b (dedup_from (λ x y. same (value_of_item x) (value_of_item y)) k xs) (k ∷ dedup_from (λ x y. same (value_of_item x) (value_of_item y)) x xs)) ≡ cond b (dedup_from same (value_of_item k) (map value_of_item xs)) (value_of_item k ∷ dedup_from same (value_of_item x) (map value_of_item xs))) [
  | true ↦ values_dedup_from k xs
  | false ↦ ap (λ ys. value_of_item k ∷ ys) (values_dedup_from x xs)
]

values_dedup : (s : List Item) → map value_of_item (dedup (λ x y. same (value_of_item x) (value_of_item y)) s) ≡ dedup same (map value_of_item s)
values_dedup [] = refl
values_dedup (x ∷ xs) = values_dedup_from x xs

pub in_order-is : (xs s d : List Item) → IsPermutation xs s → IsSorted (on value_of_item document_order) s → d ≡ dedup (λ x y. same (value_of_item x) (value_of_item y)) s → IsTrue (are_nodes (values_of xs))
    → map value_of_item d ≡ ordered (map value_of_item xs)
in_order-is xs s d moved up is all =
    in_values (map value_of_item xs) (map value_of_item s) (map value_of_item d) (IsPermutation-map value_of_item xs s moved) (values_sorted s up) (ap (map value_of_item) is ∙ values_dedup s) all

-- the definition by a filter: of any list of places in strict order that has them all, those that are among its items

equal : (r : Ordering) → is_eq r ≡ true → r ≡ Equal
equal Less e = absurd (true≢false (sym e))
equal Equal e = refl
equal Greater e = absurd (true≢false (sym e))

has_item_tied : (q k : ItemValue) (xs : List ItemValue) → eq_by_cmp document_order q k ≡ true → has_item xs k ≡ has_item xs q
has_item_tied q k [] e = refl
has_item_tied q k (x ∷ xs) e = (let h = ap is_eq (sym (document_total.congr q k x (equal (document_order q k) e))) in λ i. h i || has_item_tied q k xs e i)

places-filter : (p : ItemValue → Bool) (xs : List ItemValue) → AllByRecursion IsNode xs → AllByRecursion IsNode (filter p xs)
places-filter p [] h = tt
places-filter p (x ∷ xs) h = elim (p x) as (λ b. AllByRecursion IsNode (cond b (x ∷ filter p xs) (filter p xs))) [
  | true ↦ (h.0, places-filter p xs h.1)
  | false ↦ places-filter p xs h.1
]

both_hold : (a b : Bool) → (a ≡ true → b ≡ true) → a ≡ (a && b)
both_hold true b h = sym (h refl)
both_hold false b h = refl

pub ordered-filter : (xs whole : List ItemValue) → IsTrue (are_nodes xs) → IsTrue (are_nodes whole) → IsStrictlySortedBy document_order whole →
    ((q : ItemValue) → IsTrue (has_item xs q) → IsTrue (has_item whole q)) → ordered xs ≡ filter (has_item xs) whole
ordered-filter xs whole all all_whole up inside =
    unique document_order document_total IsNode one_place (ordered xs) (filter (has_item xs) whole) (places-ordered xs (places_from xs all)) (places-filter (has_item xs) whole (places_from whole all_whole))
    (sorted-ordered xs) (IsStrictlySortedBy-filter document_order (has_item xs) whole up)
    (record { each = λ q. has_item-ordered xs q ∙ both_hold (has_item xs q) (has_item whole q) (inside q) ∙ sym (any-filter_same (eq_by_cmp document_order q) (has_item xs) (has_item xs q) (λ k e. has_item_tied q k xs e) whole) })

-- items that ascend already

less : (r : Ordering) → true ≡ is_lt r → r ≡ Less
less Less e = refl
less Equal e = absurd (true≢false e)
less Greater e = absurd (true≢false e)

-- items of which each stands before the next
pub ascending-from_adjacent : (xs : List Item) → AllAdjacentBelow (λ x y. true ≡ is_lt (document_order (value_of_item x) (value_of_item y))) xs (length xs) → IsStrictlySortedBy document_order (values_of xs)
ascending-from_adjacent xs h =
    sorted_from_all_adjacent document_total (values_of xs) Document (λ k low.
    let len : length (values_of xs) ≡ length xs = length-map xs value_of_item in
    rw (get_or-map value_of_item xs k item.Document Document (omega (arith, len)), get_or-map value_of_item xs (k + 1) item.Document Document (omega (arith, len))) (less _ (h k item.Document (omega (arith, len)))))

-- nodes that ascend are in order
pub ordered-ascending : (xs : List ItemValue) → IsTrue (are_nodes xs) → IsStrictlySortedBy document_order xs → ordered xs ≡ xs
ordered-ascending xs all up =
    unique document_order document_total IsNode one_place (ordered xs) xs (places-ordered xs (places_from xs all)) (places_from xs all) (sorted-ordered xs) up (record { each = λ q. has_item-ordered xs q })
