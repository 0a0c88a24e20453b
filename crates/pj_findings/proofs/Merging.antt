-- A stable sort by nodes gives the findings node by node.
use Rattle.std.proofs.Common.{◌≡◌, ◌∙◌, ◌+◌, ◌<◌, ◌≤◌, ◌==◌, ◌++◌, ℕ, zero, suc, Bool, true, false, cond, not, ◌&&◌, List, [], ◌∷◌, ap, arith, eqb-true, eq-eqb, flat_map, max, ne_eqb, refl, subst, sym, inl, inr, true≢false, zero-add}
use Rattle.std.specs.Prelude.{filter, nat_lt}
use Rattle.std.specs.List.{AllByRecursion, range_with_len}
use Rattle.std.specs.List.Sorted.{IsNonDecreasingBy, IsPermutation, IsSortedByKey, IsStableByKey, ties}
use Rattle.std.specs.Ordering.{is_lt, nat_cmp}
use Rattle.std.specs.declared.cmp.Ordering.TheVariants.{Less, Equal, Greater}
use Rattle.std.proofs.lemmas.Bool.{cases_Bool}
use Rattle.std.proofs.lemmas.Bool.Decides.{nat_tests}
use Rattle.std.proofs.lemmas.List.Elements.{All-from_recursion, recursion_from_All}
use Rattle.std.proofs.lemmas.List.Sorted.{All-permutation, IsNonDecreasingBy-from_sort}
use Rattle.std.specs.Prelude.{None}
use Rattle.pj_tree.specs.Places.{first_place}
use Rattle.pj_reports.specs.declared.rows.Finding.{Finding}
use Rattle.pj_findings.specs.Merged.{at_node, by_node, past_nodes}

-- the numbers of the nodes do not fall
abbrev pub Rises : List Finding → Type 0
Rises [] = Unit {0}
Rises (x ∷ xs) = AllByRecursion (λ y. x.node ≤ y.node) xs × Rises xs

-- all nodes are from one number on and below another
abbrev pub AreBetween : ℕ → ℕ → List Finding → Type 0
AreBetween low high xs = AllByRecursion (λ x. (low ≤ x.node) × (x.node < high)) xs

-- no finding of a node that is passed
at_passed : (xs : List Finding) (n : ℕ) → AllByRecursion (λ x. n < x.node) xs → at_node xs n ≡ []
at_passed [] n h = refl
at_passed (x ∷ xs) n h = rw (ne_eqb x.node n (λ e. absurd (omega (arith, e, h.0)))) (at_passed xs n h.1)

-- a finding of an earlier node is at none of these
earlier : (x : Finding) (xs : List Finding) (from count : ℕ) → x.node < from → flat_map (at_node (x ∷ xs)) (range_with_len from count) ≡ flat_map (at_node xs) (range_with_len from count)
earlier x xs from zero below = refl
earlier x xs from (suc count) below = rw (ne_eqb x.node from (λ e. absurd (omega (arith, e, below)))) (ap (λ l. at_node xs from ++ l) (earlier x xs (from + 1) count (omega arith)))

above_all : (low n : ℕ) (xs : List Finding) → low < n → AllByRecursion (λ y. n ≤ y.node) xs → AllByRecursion (λ y. low < y.node) xs
above_all low n [] l h = tt
above_all low n (x ∷ xs) l h = (omega (arith, l, h.0), above_all low n xs l h.1)

-- a finding of the least node stands first
first_stands : (x : Finding) (xs : List Finding) (low count : ℕ) → low ≤ x.node → x.node < low + count → AllByRecursion (λ y. x.node ≤ y.node) xs
    → flat_map (at_node (x ∷ xs)) (range_with_len low count) ≡ x ∷ flat_map (at_node xs) (range_with_len low count)
first_stands x xs low zero a b h = absurd (omega (arith, a, b))
first_stands x xs low (suc count) a b h = elim (cases_Bool (x.node == low)) [
  | inl same ↦ (let is = eqb-true x.node low same in rw same (ap (λ l. x ∷ (at_node xs low ++ l)) (earlier x xs (low + 1) count (omega (arith, is)))))
  | inr other ↦ (let differs : (x.node ≡ low) → ⊥ = λ e. true≢false (sym (eq-eqb x.node low e) ∙ other) in
      let above : low < x.node = omega (arith, a, differs) in
      let none = at_passed xs low (above_all low x.node xs above h) in
      let rest = first_stands x xs (low + 1) count (omega arith) (omega arith) h in
      rw other (ap (λ l. l ++ flat_map (at_node (x ∷ xs)) (range_with_len (low + 1) count)) none ∙ rest ∙ ap (λ l. x ∷ (l ++ flat_map (at_node xs) (range_with_len (low + 1) count))) (sym none)))
]

nothing_at : (low count : ℕ) → flat_map (at_node []) (range_with_len low count) ≡ []
nothing_at low zero = refl
nothing_at low (suc count) = nothing_at (low + 1) count

-- what rises, stands node by node
pub rising : (xs : List Finding) (low count : ℕ) → Rises xs → AreBetween low (low + count) xs → flat_map (at_node xs) (range_with_len low count) ≡ xs
rising [] low count up between = nothing_at low count
rising (x ∷ xs) low count up between = first_stands x xs low count between.0.0 between.0.1 up.0 ∙ ap (λ l. x ∷ l) (rising xs low count up.1 between.1)

-- ---- all nodes are below their bound

weaker : (m n : ℕ) (xs : List Finding) → m ≤ n → AreBetween 0 m xs → AreBetween 0 n xs
weaker m n [] le h = tt
weaker m n (x ∷ xs) le h = ((h.0.0, omega (arith, le, h.0.1)), weaker m n xs le h.1)

pub below_past : (xs : List Finding) → AreBetween 0 (past_nodes xs) xs
below_past [] = tt
below_past (x ∷ xs) = ((omega arith, omega arith), weaker (past_nodes xs) (max (x.node + 1) (past_nodes xs)) xs (omega arith) (below_past xs))

-- ---- sorts

rises_from : (xs : List Finding) → IsNonDecreasingBy (λ (x : Finding). x.node) xs → Rises xs
rises_from [] h = tt
rises_from (x ∷ xs) h = (recursion_from_All (λ y. x.node ≤ y.node) xs (λ k d inside. h 0 (suc k) d (omega arith) (omega arith)), rises_from xs (λ i j d le inside. h (suc i) (suc j) d (omega arith) (omega arith)))

abbrev below : Finding → Finding → Bool
below x y = is_lt (nat_cmp x.node y.node)

lt_is : (a b : ℕ) → is_lt (nat_cmp a b) ≡ nat_lt a b
lt_is a b = elim (nat_lt a b) as (λ t. is_lt (cond t Less (cond (a == b) Equal Greater)) ≡ t) [
  | true ↦ refl
  | false ↦ elim (a == b) as (λ t. is_lt (cond t Equal Greater) ≡ false) [ true ↦ refl | false ↦ refl ]
]

neither : (a b : ℕ) → (not (nat_lt a b) && not (nat_lt b a)) ≡ (b == a)
neither a b = grind (arith, nat_tests)

-- the test of ties is that of one node
tied : (x y : Finding) → ties below x y ≡ (y.node == x.node)
tied x y = (λ i. not (lt_is x.node y.node i) && not (lt_is y.node x.node i)) ∙ neither x.node y.node

same_filter : (p q : Finding → Bool) (xs : List Finding) → ((x : Finding) → p x ≡ q x) → filter p xs ≡ filter q xs
same_filter p q [] h = refl
same_filter p q (x ∷ xs) h = rw (h x) (ap (λ l. cond (q x) (x ∷ l) l) (same_filter p q xs h))

-- after a stable sort those of one node stand as before
same_node : (xs ys : List Finding) (x : Finding) → IsStableByKey (λ (f : Finding). f.node) nat_cmp xs ys → at_node ys x.node ≡ at_node xs x.node
same_node xs ys x stable =
    sym (same_filter (ties below x) (λ y. y.node == x.node) ys (tied x)) ∙ stable x ∙ same_filter (ties below x) (λ y. y.node == x.node) xs (tied x)

abbrev no_finding : ℕ → Finding
no_finding n = record { rule = 0; node = n; begin = first_place; end = first_place; reason = None }

each_node : (xs ys : List Finding) (low count : ℕ) → IsStableByKey (λ (f : Finding). f.node) nat_cmp xs ys → flat_map (at_node ys) (range_with_len low count) ≡ flat_map (at_node xs) (range_with_len low count)
each_node xs ys low zero stable = refl
each_node xs ys low (suc count) stable = λ i. same_node xs ys (no_finding low) stable i ++ each_node xs ys (low + 1) count stable i

pub sorted_is : (xs ys : List Finding) → IsPermutation xs ys → IsSortedByKey (λ (f : Finding). f.node) nat_cmp ys → IsStableByKey (λ (f : Finding). f.node) nat_cmp xs ys → ys ≡ by_node xs
sorted_is xs ys moved up stable =
    let between : AreBetween 0 (past_nodes xs) ys =
    recursion_from_All (λ x. (0 ≤ x.node) × (x.node < past_nodes xs)) ys (All-permutation (λ (x : Finding). (0 ≤ x.node) × (x.node < past_nodes xs)) xs ys moved (All-from_recursion (λ x. (0 ≤ x.node) × (x.node < past_nodes xs)) xs (below_past xs))) in
    sym (rising ys 0 (past_nodes xs) (rises_from ys (IsNonDecreasingBy-from_sort (λ (x : Finding). x.node) ys up)) (subst (λ n. AreBetween 0 n ys) (sym (zero-add (past_nodes xs))) between)) ∙ each_node xs ys 0 (past_nodes xs) stable
