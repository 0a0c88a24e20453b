-- The rows of one name among rows in order: they stand beside one another.
use Rattle.std.proofs.Common.{ℕ, ◌≡◌, ◌+◌, ◌-◌, ◌<◌, ◌≤◌, Bool, true, false, nat_lt, nat_eq, List, [], length, get_or, take, drop, filter, refl, ap, sym, ◌∙◌, subst, arith, Ordering, Less, Equal, Greater, nat_cmp, is_lt, inl, inr}
use Rattle.std.specs.Ordering.{ordering_index, ordering_then}
use Rattle.std.specs.Cmp.Lexicographic.{pointwise, slice_cmp, texts_ties, nat_list_cmp_total}
use Rattle.std.specs.List.Sorted.{IsPartitionPoint, IsPartitionedBy, IsNonDecreasingBy}
use Rattle.std.proofs.lemmas.Bool.{and_parts, ltb-true, ltb-false, cases_lt}
use Rattle.std.proofs.lemmas.List.{length-take, length-drop, get_or-take, get_or-drop, take_all}
use Rattle.std.proofs.lemmas.List.Sorted.{searchable_from_sorted, IsPartitionedBy-ltb}
use Rattle.pj_tree.specs.Tree.{Tree}
use Rattle.pj_tree.specs.declared.node.Node.{Node}
use Rattle.pj_declared.specs.declared.named.Named.{Named}
use Rattle.pj_declared.specs.declared.nearest.Declared.{Declared}
use Rattle.pj_declared.specs.Nearest.{declared_by, nearest, is_meant, meant_among}
use Rattle.pj_declared.specs.Table.{name_rank, IsInOrder}
use Rattle.pj_declared.proofs.Nearer.{IsOf, nearest_one, nearest_same, nearest_is}
use Rattle.pj_declared.proofs.Within.{equal_from, of_index, at_index}

-- ---- a search by name

first_not_less : (r s : Ordering) → is_lt (ordering_then r s) ≡ false → is_lt r ≡ false
first_not_less Less s h = h
first_not_less Equal s h = refl
first_not_less Greater s h = refl

ranks_up : (rows : List Named) (name : List ℕ) → IsInOrder rows → IsNonDecreasingBy (name_rank name) rows
ranks_up rows name up =
    searchable_from_sorted nat_list_cmp_total (λ (x : Named). x.name) rows name
    (λ k d low high. first_not_less (slice_cmp nat_cmp (get_or rows (k + 1) d).name (get_or rows k d).name) _ (up k d low high))

-- what `partition_point` asks
pub split_below : (rows : List Named) (name : List ℕ) (rank : ℕ) → IsInOrder rows → IsPartitionedBy (λ (row : Named). nat_lt (name_rank name row) rank) rows
split_below rows name rank up = IsPartitionedBy-ltb (name_rank name) rows rank (ranks_up rows name up)

-- ---- what is meant stands in the part of the name

abbrev IsSplit : List ℕ → ℕ → List Named → ℕ → Type 0
IsSplit name rank rows i = IsPartitionPoint (λ (row : Named). nat_lt (name_rank name row) rank ≡ true) (λ (row : Named). nat_lt (name_rank name row) rank ≡ false) rows i

same_rank : (name : List ℕ) (row : Named) → pointwise nat_eq row.name name ≡ true → name_rank name row ≡ 1
same_rank name row is = ap ordering_index (equal_from (slice_cmp nat_cmp row.name name) (sym (texts_ties row.name name) ∙ is))

module _ (t : Tree) (rows : List Named) (name : List ℕ) (place : Node) (first past : ℕ) (above : IsSplit name 1 rows first) (below : IsSplit name 2 (drop first rows) past) (few : past ≤ length (drop first rows)) where
  abbrev own : List Named
  own = take past (drop first rows)

  abbrev keep : Named → Bool
  keep = is_meant t name place

  own_at : (i : ℕ) (e : Named) → i < past → get_or own i e ≡ get_or rows (first + i) e
  own_at i e small = get_or-take past (drop first rows) i e small ∙ get_or-drop first rows i e

  moved : (xs ys : List Named) (i j : ℕ) (d : Declared) → j < length ys → ((e : Named) → get_or xs i e ≡ get_or ys j e) → ((e : Named) → (keep (get_or xs i e) ≡ true) × (declared_by (get_or xs i e).scope ≡ d)) → IsOf keep ys d
  moved xs ys i j d inside same is =
      let e : Named = record { name = []; scope = record { within = record { 0 = 0 }; opened = 0; declared = record { 0 = 0 } } } in
      subst (IsOf keep ys) (sym (ap (λ (x : Named). declared_by x.scope) (same e)) ∙ (is e).1) (at_index keep ys j e inside (sym (ap keep (same e)) ∙ (is e).0))

  of_own : (d : Declared) → IsOf keep own d → IsOf keep rows d
  of_own d h =
      let r = of_index keep own d h in
      let long = length-take past (drop first rows) in
      let behind = length-drop first rows in
      moved own rows r.0 (first + r.0) d (omega (arith, r.1, long, behind)) (λ e. own_at r.0 e (omega (arith, r.1, long))) r.2

  rank_of : (i : ℕ) (e : Named) → keep (get_or rows i e) ≡ true → name_rank name (get_or rows i e) ≡ 1
  rank_of i e is = same_rank name (get_or rows i e) (and_parts (pointwise nat_eq (get_or rows i e).name name) _ is).0

  not_above : (i : ℕ) (e : Named) → keep (get_or rows i e) ≡ true → first ≤ i
  not_above i e is = elim (cases_lt i first) [
    | inl l ↦ (let low = ltb-true (name_rank name (get_or rows i e)) 1 (above.0 i e (omega arith) l) in let one = rank_of i e is in absurd (omega (arith, low, one)))
    | inr ge ↦ ge
  ]

  not_below : (i : ℕ) (e : Named) → first ≤ i → i < length rows → keep (get_or rows i e) ≡ true → i - first < past
  not_below i e ge inside is = elim (cases_lt (i - first) past) [
    | inl l ↦ l
    | inr up ↦ (
        let behind = length-drop first rows in
        let there : get_or (drop first rows) (i - first) e ≡ get_or rows i e = get_or-drop first rows (i - first) e ∙ ap (λ (k : ℕ). get_or rows k e) (omega (arith, ge)) in
        let high = ltb-false (name_rank name (get_or rows i e)) 2 (sym (ap (λ (x : Named). nat_lt (name_rank name x) 2) there) ∙ below.1 (i - first) e up (omega (arith, ge, inside, behind))) in
        let one = rank_of i e is in
        absurd (omega (arith, high, one)))
  ]

  of_rows : (d : Declared) → IsOf keep rows d → IsOf keep own d
  of_rows d h =
      let r = of_index keep rows d h in
      let e : Named = record { name = []; scope = record { within = record { 0 = 0 }; opened = 0; declared = record { 0 = 0 } } } in
      let ge = not_above r.0 e (r.2 e).0 in
      let small = not_below r.0 e ge r.1 (r.2 e).0 in
      let long = length-take past (drop first rows) in
      moved rows own r.0 (r.0 - first) d (omega (arith, small, long, few))
      (λ x. ap (λ (k : ℕ). get_or rows k x) (omega (arith, ge)) ∙ sym (own_at (r.0 - first) x small)) r.2

  pub meant_in_part : meant_among t (take past (drop first rows)) name place ≡ meant_among t rows name place
  meant_in_part =
      nearest_one (IsOf keep rows) (nearest (filter keep own)) (nearest (filter keep rows))
      (nearest_same (IsOf keep own) (IsOf keep rows) (nearest (filter keep own)) of_own of_rows (nearest_is keep own))
      (nearest_is keep rows)

pub meant_in_rest : (t : Tree) (rows rest : List Named) (name : List ℕ) (place : Node) (first past : ℕ) → rest ≡ take (length rows - first) (drop first rows) → IsSplit name 1 rows first → IsSplit name 2 rest past → past ≤ length rest →
    meant_among t (take past rest) name place ≡ meant_among t rows name place
meant_in_rest t rows rest name place first past is above below few =
    let long = length-drop first rows in
    let whole : rest ≡ drop first rows = is ∙ take_all (length rows - first) (drop first rows) (omega (arith, long)) in
    ap (λ (r : List Named). meant_among t (take past r) name place) whole
    ∙ meant_in_part t rows name place first past above (subst (λ (r : List Named). IsSplit name 2 r past) whole below) (subst (λ (r : List Named). past ≤ length r) whole few)
