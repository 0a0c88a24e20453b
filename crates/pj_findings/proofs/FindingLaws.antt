-- The findings of a file are those of its rules, in order.
use Rattle.std.proofs.Common.{◌≡◌, ◌∙◌, ◌+◌, ◌<◌, ◌≤◌, ◌==◌, ◌++◌, ℕ, zero, suc, Bool, true, false, cond, List, [], ◌∷◌, Some, ap, arith, eqb-true, eq-eqb, flat_map, length, map, ne_eqb, refl, subst, sym, zero-add}
use Rattle.std.specs.Prelude.{filter, slice_get}
use Rattle.std.specs.List.{AllByRecursion, range_with_len}
use Rattle.std.specs.List.Sorted.{IsStrictlySortedBy}
use Rattle.std.specs.Cmp.{nat_cmp_is}
use Rattle.std.specs.Ordering.{is_le, nat_cmp, ordering_then}
use Rattle.std.specs.declared.cmp.Ordering.{Ordering}
use Rattle.std.specs.declared.cmp.Ordering.TheVariants.{Less, Equal}
use Rattle.std.proofs.lemmas.Map.Keys.{le_from_is_le}
use Rattle.std.proofs.lemmas.List.Kept.{IsStrictlySortedBy-filter}
use Rattle.pj_reports.specs.declared.rows.Finding.{Finding}
use Rattle.pj_reports.specs.declared.ruled.Spot.{Spot}
use Rattle.pj_reports.specs.declared.ruled.Ruled.{Ruled}
use Rattle.pj_findings.specs.Laws.{IsAscending, finding_order}
use Rattle.pj_findings.specs.Merged.{at_node, by_node, finding_of, findings_from, found_by, past_nodes}
use Rattle.pj_findings.proofs.Merging.{AreBetween, Rises, below_past, rising}

-- ---- lists

all_append : {X : Type 0} (P : X → Type 0) (xs ys : List X) → AllByRecursion P xs → AllByRecursion P ys → AllByRecursion P (xs ++ ys)
all_append P [] ys a b = b
all_append P (x ∷ xs) ys a b = (a.0, all_append P xs ys a.1 b)

all_filter : {X : Type 0} (P : X → Type 0) (p : X → Bool) (xs : List X) → AllByRecursion P xs → AllByRecursion P (filter p xs)
all_filter P p [] h = tt
all_filter P p (x ∷ xs) h = elim (p x) as (λ b. AllByRecursion P (cond b (x ∷ filter p xs) (filter p xs))) [
  | true ↦ (h.0, all_filter P p xs h.1)
  | false ↦ all_filter P p xs h.1
]

filter_append : {X : Type 0} (p : X → Bool) (xs ys : List X) → filter p (xs ++ ys) ≡ filter p xs ++ filter p ys
filter_append p [] ys = refl
filter_append p (x ∷ xs) ys = elim (p x) as (λ b. cond b (x ∷ filter p (xs ++ ys)) (filter p (xs ++ ys)) ≡ cond b (x ∷ filter p xs) (filter p xs) ++ filter p ys) [
  | true ↦ ap (λ l. x ∷ l) (filter_append p xs ys)
  | false ↦ filter_append p xs ys
]

filter_all : {X : Type 0} (p : X → Bool) (xs : List X) → AllByRecursion (λ x. p x ≡ true) xs → filter p xs ≡ xs
filter_all p [] h = refl
filter_all p (x ∷ xs) h = rw (h.0) (ap (λ l. x ∷ l) (filter_all p xs h.1))

filter_none : {X : Type 0} (p : X → Bool) (xs : List X) → AllByRecursion (λ x. p x ≡ false) xs → filter p xs ≡ []
filter_none p [] h = refl
filter_none p (x ∷ xs) h = rw (h.0) (filter_none p xs h.1)

filter_swap : {X : Type 0} (p q : X → Bool) (xs : List X) → filter p (filter q xs) ≡ filter q (filter p xs)
filter_swap p q [] = refl
filter_swap p q (x ∷ xs) = by_both (filter_swap p q xs) (p x) (q x) refl refl
  where
    by_both : filter p (filter q xs) ≡ filter q (filter p xs) → (a b : Bool) → p x ≡ a → q x ≡ b → filter p (filter q (x ∷ xs)) ≡ filter q (filter p (x ∷ xs))
    by_both rest true true e f = simp (e, f) (ap (λ l. x ∷ l) rest)
    by_both rest true false e f = simp (e, f) rest
    by_both rest false true e f = simp (e, f) rest
    by_both rest false false e f = simp (e, f) rest

filter_flat_map : {X Y : Type 0} (p : Y → Bool) (f : X → List Y) (xs : List X) → filter p (flat_map f xs) ≡ flat_map (λ x. filter p (f x)) xs
filter_flat_map p f [] = refl
filter_flat_map p f (x ∷ xs) = filter_append p (f x) (flat_map f xs) ∙ ap (λ l. filter p (f x) ++ l) (filter_flat_map p f xs)

same_flat_map : {X Y : Type 0} (f g : X → List Y) (xs : List X) → ((x : X) → f x ≡ g x) → flat_map f xs ≡ flat_map g xs
same_flat_map f g [] h = refl
same_flat_map f g (x ∷ xs) h = λ i. h x i ++ same_flat_map f g xs h i

sorted_append : {X : Type 0} (c : X → X → Ordering) (xs ys : List X) → IsStrictlySortedBy c xs → IsStrictlySortedBy c ys → AllByRecursion (λ x. AllByRecursion (λ y. c x y ≡ Less) ys) xs → IsStrictlySortedBy c (xs ++ ys)
unfolding IsStrictlySortedBy
sorted_append c [] ys a b cross = b
sorted_append c (x ∷ xs) ys a b cross = (all_append (λ y. c x y ≡ Less) xs ys a.0 cross.0, sorted_append c xs ys a.1 b cross.1)

-- each of the first list with each of the second
crossing : {X : Type 0} (P Q : X → Type 0) (c : X → X → Ordering) (xs ys : List X) → ((x y : X) → P x → Q y → c x y ≡ Less) → AllByRecursion P xs → AllByRecursion Q ys → AllByRecursion (λ x. AllByRecursion (λ y. c x y ≡ Less) ys) xs
crossing P Q c [] ys h p q = tt
crossing P Q c (x ∷ xs) ys h p q = (one ys q, crossing P Q c xs ys h p.1 q)
  where
    one : (zs : List _) → AllByRecursion Q zs → AllByRecursion (λ y. c x y ≡ Less) zs
    one [] r = tt
    one (z ∷ zs) r = (h x z p.0 r.0, one zs r.1)

pub less : (m n : ℕ) → m < n → nat_cmp m n ≡ Less
less m n h = sym (nat_cmp_is m n Less h)

equal : (m n : ℕ) → m ≡ n → nat_cmp m n ≡ Equal
equal m n h = sym (nat_cmp_is m n Equal h)

-- ---- the order

earlier_node : (x y : Finding) → x.node < y.node → finding_order x y ≡ Less
earlier_node x y h = ap (λ o. ordering_then o (nat_cmp x.rule y.rule)) (less x.node y.node h)

earlier_rule : (x y : Finding) → x.node ≡ y.node → x.rule < y.rule → finding_order x y ≡ Less
earlier_rule x y e h = ap (λ o. ordering_then o (nat_cmp x.rule y.rule)) (equal x.node y.node e) ∙ less x.rule y.rule h

-- ---- numbers of rules

own_number : (rule : ℕ) (found : List Spot) → AllByRecursion (λ (x : Finding). x.rule ≡ rule) (map (finding_of rule) found)
own_number rule [] = tt
own_number rule (x ∷ xs) = (refl, own_number rule xs)

at_least : (m n : ℕ) (xs : List Finding) → m ≤ n → AllByRecursion (λ x. n ≤ x.rule) xs → AllByRecursion (λ x. m ≤ x.rule) xs
at_least m n [] le h = tt
at_least m n (x ∷ xs) le h = (omega (arith, le, h.0), at_least m n xs le h.1)

own_least : (rule : ℕ) (xs : List Finding) → AllByRecursion (λ x. x.rule ≡ rule) xs → AllByRecursion (λ x. rule ≤ x.rule) xs
own_least rule [] h = tt
own_least rule (x ∷ xs) h = (omega (arith, h.0), own_least rule xs h.1)

least_number : (rule : ℕ) (results : List Ruled) → AllByRecursion (λ x. rule ≤ x.rule) (findings_from rule results)
least_number rule [] = tt
least_number rule (result ∷ results) = all_append (λ (x : Finding). rule ≤ x.rule) (map (finding_of rule) (found_by result)) (findings_from (rule + 1) results)
    (own_least rule _ (own_number rule (found_by result))) (at_least rule (rule + 1) (findings_from (rule + 1) results) (omega arith) (least_number (rule + 1) results))

-- ---- nodes

at_is : (n : ℕ) (xs : List Finding) → AllByRecursion (λ x. x.node ≡ n) (at_node xs n)
at_is n [] = tt
at_is n (x ∷ xs) = elim (x.node == n) as (λ b. (x.node == n) ≡ b → AllByRecursion (λ (y : Finding). y.node ≡ n) (cond b (x ∷ at_node xs n) (at_node xs n))) [
  | true ↦ λ e. (eqb-true x.node n e, at_is n xs)
  | false ↦ λ e. at_is n xs
] refl

-- what a rule finds is in order
own_sorted : (rule : ℕ) (found : List Spot) → IsStrictlySortedBy nat_cmp (map (λ (x : Spot). x.node) found) → IsStrictlySortedBy finding_order (map (finding_of rule) found)
unfolding IsStrictlySortedBy
own_sorted rule [] h = tt
own_sorted rule (x ∷ xs) h = (behind xs h.0, own_sorted rule xs h.1)
  where
    behind : (ys : List Spot) → AllByRecursion (λ n. nat_cmp x.node n ≡ Less) (map (λ (y : Spot). y.node) ys) → AllByRecursion (λ (y : Finding). finding_order (finding_of rule x) y ≡ Less) (map (finding_of rule) ys)
    behind [] r = tt
    behind (y ∷ ys) r = (ap (λ o. ordering_then o (nat_cmp rule rule)) r.0, behind ys r.1)

pair : {X : Type 0} (P Q R : X → Type 0) (xs : List X) → ((x : X) → P x → Q x → R x) → AllByRecursion P xs → AllByRecursion Q xs → AllByRecursion R xs
pair P Q R [] h p q = tt
pair P Q R (x ∷ xs) h p q = (h x p.0 q.0, pair P Q R xs h p.1 q.1)

-- at one node the findings stand by the rules
at_sorted : (rule n : ℕ) (results : List Ruled) → AllByRecursion IsAscending results → IsStrictlySortedBy finding_order (at_node (findings_from rule results) n)
unfolding IsStrictlySortedBy
at_sorted rule n [] h = tt
at_sorted rule n (result ∷ results) h =
    let own = map (finding_of rule) (found_by result) in
    let others = findings_from (rule + 1) results in
    let first : AllByRecursion (λ (x : Finding). (x.node ≡ n) × (x.rule ≡ rule)) (at_node own n) =
    pair (λ (x : Finding). x.node ≡ n) (λ (x : Finding). x.rule ≡ rule) (λ (x : Finding). (x.node ≡ n) × (x.rule ≡ rule)) (at_node own n) (λ x a b. (a, b)) (at_is n own) (all_filter (λ (x : Finding). x.rule ≡ rule) (λ x. x.node == n) own (own_number rule (found_by result))) in
    let second : AllByRecursion (λ (x : Finding). (x.node ≡ n) × (rule + 1 ≤ x.rule)) (at_node others n) =
    pair (λ (x : Finding). x.node ≡ n) (λ (x : Finding). rule + 1 ≤ x.rule) (λ (x : Finding). (x.node ≡ n) × (rule + 1 ≤ x.rule)) (at_node others n) (λ x a b. (a, b)) (at_is n others) (all_filter (λ (x : Finding). rule + 1 ≤ x.rule) (λ x. x.node == n) others (least_number (rule + 1) results)) in
    subst (λ l. IsStrictlySortedBy finding_order l) (sym (filter_append (λ (x : Finding). x.node == n) own others))
    (sorted_append finding_order (at_node own n) (at_node others n)
    (IsStrictlySortedBy-filter finding_order (λ (x : Finding). x.node == n) own (own_sorted rule (found_by result) h.0))
    (at_sorted (rule + 1) n results h.1)
    (crossing (λ (x : Finding). (x.node ≡ n) × (x.rule ≡ rule)) (λ (x : Finding). (x.node ≡ n) × (rule + 1 ≤ x.rule)) finding_order (at_node own n) (at_node others n)
    (λ x y p q. earlier_rule x y (p.0 ∙ sym q.0) (omega (arith, p.1, q.1))) first second))

weaker_from : (m n : ℕ) (xs : List Finding) → m ≤ n → AllByRecursion (λ x. n ≤ x.node) xs → AllByRecursion (λ x. m ≤ x.node) xs
weaker_from m n [] le h = tt
weaker_from m n (x ∷ xs) le h = (omega (arith, le, h.0), weaker_from m n xs le h.1)

is_from : (n : ℕ) (xs : List Finding) → AllByRecursion (λ x. x.node ≡ n) xs → AllByRecursion (λ x. n ≤ x.node) xs
is_from n [] h = tt
is_from n (x ∷ xs) h = (omega (arith, h.0), is_from n xs h.1)

from_low : (xs : List Finding) (low count : ℕ) → AllByRecursion (λ x. low ≤ x.node) (flat_map (at_node xs) (range_with_len low count))
from_low xs low zero = tt
from_low xs low (suc count) = all_append (λ (x : Finding). low ≤ x.node) (at_node xs low) (flat_map (at_node xs) (range_with_len (low + 1) count))
    (is_from low (at_node xs low) (at_is low xs)) (weaker_from low (low + 1) _ (omega arith) (from_low xs (low + 1) count))

-- and the nodes stand one after the other
nodes_sorted : (xs : List Finding) (low count : ℕ) → ((n : ℕ) → IsStrictlySortedBy finding_order (at_node xs n)) → IsStrictlySortedBy finding_order (flat_map (at_node xs) (range_with_len low count))
unfolding IsStrictlySortedBy
nodes_sorted xs low zero h = tt
nodes_sorted xs low (suc count) h = sorted_append finding_order (at_node xs low) (flat_map (at_node xs) (range_with_len (low + 1) count)) (h low) (nodes_sorted xs (low + 1) count h)
    (crossing (λ (x : Finding). x.node ≡ low) (λ (x : Finding). low + 1 ≤ x.node) finding_order (at_node xs low) (flat_map (at_node xs) (range_with_len (low + 1) count))
    (λ x y p q. earlier_node x y (omega (arith, p, q))) (at_is low xs) (from_low xs (low + 1) count))

pub ascend : (results : List Ruled) → AllByRecursion IsAscending results → IsStrictlySortedBy finding_order (by_node (findings_from 0 results))
ascend results h = nodes_sorted (findings_from 0 results) 0 (past_nodes (findings_from 0 results)) (λ n. at_sorted 0 n results h)

-- ---- each rule's own

abbrev of_rule : ℕ → Finding → Bool
of_rule rule x = x.rule == rule

own_pass : (rule : ℕ) (xs : List Finding) → AllByRecursion (λ x. x.rule ≡ rule) xs → AllByRecursion (λ x. of_rule rule x ≡ true) xs
own_pass rule [] h = tt
own_pass rule (x ∷ xs) h = (eq-eqb x.rule rule h.0, own_pass rule xs h.1)

others_fail : (rule n : ℕ) (xs : List Finding) → (rule ≡ n → ⊥) → AllByRecursion (λ x. x.rule ≡ n) xs → AllByRecursion (λ x. of_rule rule x ≡ false) xs
others_fail rule n [] differs h = tt
others_fail rule n (x ∷ xs) differs h = (ne_eqb x.rule rule (λ e. differs (sym e ∙ h.0)), others_fail rule n xs differs h.1)

later_fail : (rule : ℕ) (xs : List Finding) → AllByRecursion (λ x. rule + 1 ≤ x.rule) xs → AllByRecursion (λ x. of_rule rule x ≡ false) xs
later_fail rule [] h = tt
later_fail rule (x ∷ xs) h = (ne_eqb x.rule rule (λ e. absurd (omega (arith, e, h.0))), later_fail rule xs h.1)

append_nil : {X : Type 0} (xs : List X) → xs ++ [] ≡ xs
append_nil [] = refl
append_nil (x ∷ xs) = ap (λ l. x ∷ l) (append_nil xs)

pub one_result : (a b : Ruled) → Some a ≡ Some b → a ≡ b
one_result a b e = cc

own_findings : (rule first place : ℕ) (results : List Ruled) (result : Ruled) → rule ≡ first + place → slice_get results place ≡ Some result → filter (of_rule rule) (findings_from first results) ≡ map (finding_of rule) (found_by result)
own_findings rule first place [] result is there = absurd (cc)
own_findings rule first zero (r ∷ rs) result is there =
    let same : first ≡ rule = omega (arith, is) in
    let own = map (finding_of first) (found_by r) in
    filter_append (of_rule rule) own (findings_from (first + 1) rs)
    ∙ (λ i. filter_all (of_rule rule) own (own_pass rule own (subst (λ n. AllByRecursion (λ (x : Finding). x.rule ≡ n) own) same (own_number first (found_by r)))) i
    ++ filter_none (of_rule rule) (findings_from (first + 1) rs) (later_fail rule (findings_from (first + 1) rs) (subst (λ n. AllByRecursion (λ (x : Finding). n + 1 ≤ x.rule) (findings_from (first + 1) rs)) same (least_number (first + 1) rs))) i)
    ∙ append_nil own ∙ (λ i. map (finding_of (same i)) (found_by (one_result r result there i)))
own_findings rule first (suc place) (r ∷ rs) result is there =
    let own = map (finding_of first) (found_by r) in
    filter_append (of_rule rule) own (findings_from (first + 1) rs)
    ∙ ap (λ l. l ++ filter (of_rule rule) (findings_from (first + 1) rs)) (filter_none (of_rule rule) own (others_fail rule first own (λ e. absurd (omega (arith, is, e))) (own_number first (found_by r))))
    ∙ own_findings rule (first + 1) place rs result (omega (arith, is)) there

less_is : (m n : ℕ) → nat_cmp m n ≡ Less → m ≤ n
less_is m n e = le_from_is_le m n (ap is_le e)

-- what ascends, rises
own_rises : (rule : ℕ) (found : List Spot) → IsStrictlySortedBy nat_cmp (map (λ (x : Spot). x.node) found) → Rises (map (finding_of rule) found)
unfolding IsStrictlySortedBy
own_rises rule [] h = tt
own_rises rule (x ∷ xs) h = (behind xs h.0, own_rises rule xs h.1)
  where
    behind : (ys : List Spot) → AllByRecursion (λ n. nat_cmp x.node n ≡ Less) (map (λ (y : Spot). y.node) ys) → AllByRecursion (λ (y : Finding). x.node ≤ y.node) (map (finding_of rule) ys)
    behind [] r = tt
    behind (y ∷ ys) r = (less_is x.node y.node r.0, behind ys r.1)

at_result : (P : Ruled → Type 0) (results : List Ruled) (place : ℕ) (result : Ruled) → AllByRecursion P results → slice_get results place ≡ Some result → P result
at_result P [] place result h there = absurd (cc)
at_result P (r ∷ rs) zero result h there = subst P (one_result r result there) h.0
at_result P (r ∷ rs) (suc place) result h there = at_result P rs place result h.1 there

pub kept : (results : List Ruled) (rule : ℕ) (result : Ruled) → AllByRecursion IsAscending results → slice_get results rule ≡ Some result
    → filter (of_rule rule) (by_node (findings_from 0 results)) ≡ map (finding_of rule) (found_by result)
kept results rule result h there =
    let all = findings_from 0 results in
    let count = past_nodes all in
    let own = own_findings rule 0 rule results result (sym (zero-add rule)) there in
    let between : AreBetween 0 (0 + count) (map (finding_of rule) (found_by result)) =
    subst (λ n. AreBetween 0 n (map (finding_of rule) (found_by result))) (sym (zero-add count))
    (subst (λ l. AreBetween 0 count l) own (all_filter (λ (x : Finding). (0 ≤ x.node) × (x.node < count)) (of_rule rule) all (below_past all))) in
    filter_flat_map (of_rule rule) (at_node all) (range_with_len 0 count)
    ∙ same_flat_map (λ n. filter (of_rule rule) (at_node all n)) (at_node (filter (of_rule rule) all)) (range_with_len 0 count) (λ n. filter_swap (of_rule rule) (λ x. x.node == n) all)
    ∙ ap (λ l. flat_map (at_node l) (range_with_len 0 count)) own
    ∙ rising (map (finding_of rule) (found_by result)) 0 count (own_rises rule (found_by result) (at_result IsAscending results rule result h there)) between

-- ---- their numbers

below_all : (count : ℕ) (first : ℕ) (results : List Ruled) → first + length results ≡ count → AllByRecursion (λ (x : Finding). x.rule < count) (findings_from first results)
below_all count first [] is = tt
below_all count first (r ∷ rs) is = all_append (λ (x : Finding). x.rule < count) (map (finding_of first) (found_by r)) (findings_from (first + 1) rs)
    (own_below count first (found_by r) (omega (arith, is))) (below_all count (first + 1) rs (omega (arith, is)))
  where
    own_below : (count first : ℕ) (found : List Spot) → first < count → AllByRecursion (λ (x : Finding). x.rule < count) (map (finding_of first) found)
    own_below count first [] below = tt
    own_below count first (x ∷ xs) below = (below, own_below count first xs below)

each_by_node : (P : Finding → Type 0) (xs : List Finding) (low count : ℕ) → AllByRecursion P xs → AllByRecursion P (flat_map (at_node xs) (range_with_len low count))
each_by_node P xs low zero h = tt
each_by_node P xs low (suc count) h =
    all_append P (at_node xs low) (flat_map (at_node xs) (range_with_len (low + 1) count)) (all_filter P (λ x. x.node == low) xs h) (each_by_node P xs (low + 1) count h)

pub of_rules : (results : List Ruled) → AllByRecursion (λ (x : Finding). x.rule < length results) (by_node (findings_from 0 results))
of_rules results = each_by_node (λ (x : Finding). x.rule < length results) (findings_from 0 results) 0 (past_nodes (findings_from 0 results)) (below_all (length results) 0 results (zero-add (length results)))
