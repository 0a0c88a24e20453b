-- Rows in the order in which they are searched.
use Rattle.std.proofs.Common.{ℕ, ◌≡◌, ◌<◌, ◌≤◌, ◌⊎◌, Bool, true, false, cond, ◌&&◌, ◌||◌, nat_lt, ◌==◌, List, get_or, refl, ap, sym, ◌∙◌, inl, inr, arith, true≢false, Ordering, Less, Equal, Greater, nat_cmp, is_lt, is_gt}
use Rattle.std.specs.Ordering.{ordering_then, ordering_reverse, ordering_index, then_cmp, on}
use Rattle.std.specs.Cmp.{IsTotalOrder, then_total, on_total, nat_cmp_total}
use Rattle.std.specs.Cmp.Lexicographic.{slice_cmp, nat_list_cmp_total}
use Rattle.std.specs.List.Sorted.{IsPartitionedBy}
use Rattle.std.proofs.lemmas.Bool.{cases_Bool, ltb-false, le-ltb, eqb-true, eqb-false}
use Rattle.std.proofs.lemmas.List.Sorted.{searchable_from_sorted}
use Rattle.pj_tree.specs.declared.node.Node.{Node}
use Rattle.pj_declared.specs.declared.named.Named.{Named}
use Rattle.pj_declared.specs.Table.{before_by, is_before, row_order, IsInOrder}

-- ---- the order of rows

-- a row that stands first among those of a name within a node that a number opens
abbrev pub probe : List ℕ → Node → ℕ → Named
probe name within opened = record { name = name; scope = record { within = within; opened = opened; declared = record { 0 = 0 } } }

abbrev text_cmp : Named → Named → Ordering
text_cmp = on (λ (x : Named). x.name) (slice_cmp nat_cmp)

abbrev within_cmp : Named → Named → Ordering
within_cmp = on (λ (x : Named). x.scope.within.0) nat_cmp

abbrev last_cmp : Named → Named → Ordering
last_cmp = then_cmp (on (λ (x : Named). x.scope.opened) nat_cmp) (on (λ (x : Named). x.scope.declared.0) nat_cmp)

-- by name, and by what the scope lies within
abbrev pub place_order : Named → Named → Ordering
place_order = then_cmp text_cmp within_cmp

text_total : IsTotalOrder text_cmp
text_total = on_total (λ (x : Named). x.name) nat_list_cmp_total

within_total : IsTotalOrder within_cmp
within_total = on_total (λ (x : Named). x.scope.within.0) nat_cmp_total

last_total : IsTotalOrder last_cmp
last_total = then_total (on_total (λ (x : Named). x.scope.opened) nat_cmp_total) (on_total (λ (x : Named). x.scope.declared.0) nat_cmp_total)

pub place_total : IsTotalOrder place_order
place_total = then_total text_total within_total

pub row_total : IsTotalOrder row_order
row_total = then_total text_total (then_total within_total last_total)

regrouped : (a b c : Ordering) → ordering_then a (ordering_then b c) ≡ ordering_then (ordering_then a b) c
regrouped Less b c = refl
regrouped Equal b c = refl
regrouped Greater b c = refl

row_parts : (x y : Named) → row_order x y ≡ ordering_then (place_order x y) (last_cmp x y)
row_parts x y = regrouped (text_cmp x y) (within_cmp x y) (last_cmp x y)

-- of one name and within one node the numbers decide
pub row_tied : (x y : Named) → place_order x y ≡ Equal → row_order x y ≡ last_cmp x y
row_tied x y e = row_parts x y ∙ ap (λ r. ordering_then r (last_cmp x y)) e

first_not_greater : (r s : Ordering) → is_gt (ordering_then r s) ≡ false → is_gt r ≡ false
first_not_greater Less s h = refl
first_not_greater Equal s h = refl
first_not_greater Greater s h = h

turned : (r : Ordering) → is_lt (ordering_reverse r) ≡ is_gt r
turned Less = refl
turned Equal = refl
turned Greater = refl

-- y is not before x, so x is at most y
pub place_up : (x y : Named) → is_lt (row_order y x) ≡ false → is_gt (place_order x y) ≡ false
place_up x y h =
    let up : is_gt (row_order x y) ≡ false = sym (turned (row_order x y)) ∙ ap is_lt (sym (row_total.antisymm y x)) ∙ h in
    first_not_greater (place_order x y) (last_cmp x y) (ap is_gt (sym (row_parts x y)) ∙ up)

less_is_up : (r : Ordering) → is_lt r ≡ true → is_gt r ≡ false
less_is_up Less h = refl
less_is_up Equal h = absurd (true≢false (sym h))
less_is_up Greater h = absurd (true≢false (sym h))

pub place_below : (x y : Named) → is_lt (row_order x y) ≡ true → is_gt (place_order x y) ≡ false
place_below x y h = first_not_greater (place_order x y) (last_cmp x y) (ap is_gt (sym (row_parts x y)) ∙ less_is_up (row_order x y) h)

only_equal : (r : Ordering) → is_gt r ≡ false → is_gt (ordering_reverse r) ≡ false → r ≡ Equal
only_equal Less h k = absurd (true≢false k)
only_equal Equal h k = refl
only_equal Greater h k = absurd (true≢false h)

-- what is between two of one place is of that place
pub place_between : (x y z : Named) → is_gt (place_order x y) ≡ false → is_gt (place_order y z) ≡ false → place_order x z ≡ Equal → place_order y z ≡ Equal
place_between x y z a b e =
    let back : is_gt (place_order z y) ≡ false = ap is_gt (sym (place_total.congr x z y e)) ∙ a in
    only_equal (place_order y z) b (ap is_gt (sym (place_total.antisymm z y)) ∙ back)

-- ---- numbers

pub numbers_up : (a b c d : ℕ) → is_lt (ordering_then (nat_cmp b a) (nat_cmp d c)) ≡ false → (a < b) ⊎ ((a ≡ b) × (c ≤ d))
numbers_up a b c d h = elim (cases_Bool (nat_lt b a)) [
  | inl lower ↦ absurd (true≢false (sym (ap (λ t. is_lt (ordering_then (cond t Less (cond (b == a) Equal Greater)) (nat_cmp d c))) lower) ∙ h))
  | inr ge ↦ (
      let h1 : is_lt (ordering_then (cond (b == a) Equal Greater) (nat_cmp d c)) ≡ false = sym (ap (λ t. is_lt (ordering_then (cond t Less (cond (b == a) Equal Greater)) (nat_cmp d c))) ge) ∙ h in
      elim (cases_Bool (b == a)) [
        | inl same ↦ (
            let h2 : is_lt (nat_cmp d c) ≡ false = sym (ap (λ t. is_lt (ordering_then (cond t Equal Greater) (nat_cmp d c))) same) ∙ h1 in
            inr (sym (eqb-true _ _ same), ltb-false _ _ (lt_of d c h2)))
        | inr other ↦ inl (less a b (ltb-false _ _ ge) (eqb-false _ _ other))
      ])
]
  where
    less : (m n : ℕ) → m ≤ n → (n ≡ m → ⊥) → m < n
    less m n le ne = omega arith

    lt_of : (m n : ℕ) → is_lt (nat_cmp m n) ≡ false → nat_lt m n ≡ false
    lt_of m n e = elim (cases_Bool (nat_lt m n)) [
      | inl is ↦ absurd (true≢false (sym (ap (λ t. is_lt (cond t Less (cond (m == n) Equal Greater))) is) ∙ e))
      | inr is ↦ is
    ]

-- ---- what stands before a number

before_as : (c : Ordering) (lw ew lo eo ld ed : Bool) → ld ≡ false →
    before_by c (lw || (ew && lo)) ≡ is_lt (ordering_then c (ordering_then (cond lw Less (cond ew Equal Greater)) (ordering_then (cond lo Less (cond eo Equal Greater)) (cond ld Less (cond ed Equal Greater)))))
before_as Less lw ew lo eo ld ed h = refl
before_as Greater lw ew lo eo ld ed h = refl
before_as Equal true ew lo eo ld ed h = refl
before_as Equal false true true eo ld ed h = refl
before_as Equal false true false true ld ed h = sym (ap (λ t. is_lt (cond t Less (cond ed Equal Greater))) h ∙ least ed)
  where
    least : (b : Bool) → is_lt (cond b Equal Greater) ≡ false
    least true = refl
    least false = refl
before_as Equal false true false false ld ed h = refl
before_as Equal false false lo eo ld ed h = refl

pub before_is : (name : List ℕ) (within : Node) (opened : ℕ) (row : Named) → is_before name within opened row ≡ is_lt (row_order row (probe name within opened))
before_is name within opened row =
    before_as (slice_cmp nat_cmp row.name name) (nat_lt row.scope.within.0 within.0) (row.scope.within.0 == within.0) (nat_lt row.scope.opened opened) (row.scope.opened == opened) (nat_lt row.scope.declared.0 0) (row.scope.declared.0 == 0)
    (le-ltb row.scope.declared.0 0 (omega arith))

index_of_less : (r : Ordering) → is_lt r ≡ true → ordering_index r ≡ 0
index_of_less Less h = refl
index_of_less Equal h = absurd (true≢false (sym h))
index_of_less Greater h = absurd (true≢false (sym h))

less_from_index : (r : Ordering) → ordering_index r ≤ 0 → is_lt r ≡ true
less_from_index Less h = refl
less_from_index Equal h = absurd (omega arith)
less_from_index Greater h = absurd (omega arith)

-- what `partition_point` asks
pub split_before : (rows : List Named) (name : List ℕ) (within : Node) (opened : ℕ) → IsInOrder rows → IsPartitionedBy (λ (row : Named). is_before name within opened row) rows
split_before rows name within opened up i j d a b is =
    let p = probe name within opened in
    let rises = searchable_from_sorted row_total (λ (y : Named). y) rows p up i j d a b in
    let zero_at : ordering_index (row_order (get_or rows j d) p) ≡ 0 = index_of_less _ (sym (before_is name within opened (get_or rows j d)) ∙ is) in
    before_is name within opened (get_or rows i d) ∙ less_from_index _ (omega (arith, rises, zero_at))
