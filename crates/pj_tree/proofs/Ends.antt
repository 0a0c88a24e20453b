-- What the ends of subtrees say of descendants and children.
use Rattle.std.proofs.Common.{ℕ, zero, suc, ◌≡◌, ◌<◌, ◌≤◌, Bool, true, nat_eq, List, [], length, get_or, refl, ap, ◌∙◌, arith, subst, inl, inr, Option, None, Some, ◌↔◌}
use Rattle.std.proofs.lemmas.Bool.{false≢true, or_cases, eqb-true, eq-eqb, cases_eq, cases_lt, or_left, or_right}
use Rattle.std.specs.List.{list_any}
use Rattle.std.proofs.lemmas.List.{length-map, get_or_past}
use Rattle.pj_tree.specs.Tree.{ancestors, ancestors_by}
use Rattle.pj_tree.specs.Rows.{HasEnds, row_parents, row_at, above, above_at, end_at}
use Rattle.pj_tree.specs.declared.row.Row.{Row}
use Rattle.pj_tree.specs.declared.node.Node.{Node}
use Rattle.pj_tree.proofs.Ancestors.{ancestors-at, length-ancestors}
use Rattle.pj_tree.proofs.Seen.{get_or-row_parents}

-- whether a node of this number is among them
abbrev pub has_number : ℕ → List Node → Bool
has_number n nodes = list_any (λ a. nat_eq a.0 n) nodes

-- the ancestors of a row
abbrev pub above_row : List Row → ℕ → List Node
above_row rows m = get_or (ancestors (row_parents rows)) m []

pub above_row-at : (rows : List Row) (m : ℕ) → HasEnds rows → m < length rows → above_row rows m ≡ ancestors_by (ancestors (row_parents rows)) (row_at rows m).parent
above_row-at rows m ends h =
    let len : length (row_parents rows) ≡ length rows = length-map rows (λ (r : Row). r.parent) in
    ancestors-at (row_parents rows) m (λ k l. rw (get_or-row_parents rows k (omega arith)) (ends.above_below k (omega arith))) (omega arith)
    ∙ ap (ancestors_by (ancestors (row_parents rows))) (get_or-row_parents rows m h)

-- what holds of the node's parent holds of the node
reaches_step : (rows : List Row) → HasEnds rows → (m n : ℕ) → m < length rows → (o : Option Node) → above o ≡ above_at rows m
    → ((p : ℕ) → p < m → has_number n (above_row rows p) ≡ true → (n < p) × (p < end_at rows n))
    → has_number n (ancestors_by (ancestors (row_parents rows)) o) ≡ true → (n < m) × (m < end_at rows n)
reaches_step rows ends m n h None e before is = absurd (false≢true is)
reaches_step rows ends m n h (Some p) e before is =
    let low : p.0 < m = omega (arith, ends.above_below m h) in
    let reach : m < end_at rows p.0 = ends.before_end m p.0 h (omega arith) in
    elim (or_cases (nat_eq p.0 n) (has_number n (above_row rows p.0)) is) [
      | inl same ↦ (let at : p.0 ≡ n = eqb-true p.0 n same in (omega arith, subst (λ (q : ℕ). m < end_at rows q) at reach))
      | inr up ↦ (let got : (n < p.0) × (p.0 < end_at rows n) = before p.0 low up in
          let wide : end_at rows p.0 ≤ end_at rows n = ends.nested n p.0 got.0 (omega arith) got.1 in (omega arith, omega arith))
    ]

-- an ancestor's subtree reaches past the node
reaches_within : (rows : List Row) → HasEnds rows → (f m n : ℕ) → m < f → m < length rows → has_number n (above_row rows m) ≡ true → (n < m) × (m < end_at rows n)
reaches_within rows ends zero m n l h is = absurd (omega arith)
reaches_within rows ends (suc f) m n l h is =
    reaches_step rows ends m n h (row_at rows m).parent refl (λ p low up. reaches_within rows ends f p n (omega arith) (omega arith) up)
    (rw (above_row-at rows m ends h) at is)

-- what stands between a node and its end is a descendant, where that holds of its parent
under_step : (rows : List Row) → HasEnds rows → (m n : ℕ) → m < length rows → (o : Option Node) → above o ≡ above_at rows m
    → ((p : ℕ) → p < m → n < p → p < end_at rows n → has_number n (above_row rows p) ≡ true)
    → n < m → m < end_at rows n → has_number n (ancestors_by (ancestors (row_parents rows)) o) ≡ true
under_step rows ends m n h None e before past within = absurd (omega (arith, ends.inside n m past h within))
under_step rows ends m n h (Some p) e before past within =
    let low : p.0 < m = omega (arith, ends.above_below m h) in
    let from : n ≤ p.0 = omega (arith, ends.inside n m past h within) in
    elim (cases_eq p.0 n) [
      | inl same ↦ or_left (nat_eq p.0 n) (has_number n (above_row rows p.0)) (eq-eqb p.0 n same)
      | inr other ↦ or_right (nat_eq p.0 n) (has_number n (above_row rows p.0)) (before p.0 low (omega (arith, other)) (omega arith))
    ]

under_within : (rows : List Row) → HasEnds rows → (f m n : ℕ) → m < f → m < length rows → n < m → m < end_at rows n → has_number n (above_row rows m) ≡ true
under_within rows ends zero m n l h past within = absurd (omega arith)
under_within rows ends (suc f) m n l h past within =
    rw (above_row-at rows m ends h)
    (under_step rows ends m n h (row_at rows m).parent refl (λ p low from to. under_within rows ends f p n (omega arith) (omega arith) from to) past within)

-- the descendants of a node are what stands between it and its end
pub has_number-above : (rows : List Row) (n m : ℕ) → HasEnds rows → end_at rows n ≤ length rows → (has_number n (above_row rows m) ≡ true) ↔ ((n < m) × (m < end_at rows n))
has_number-above rows n m ends ended = (
  λ is. elim (cases_lt m (length rows)) [
    | inl h ↦ reaches_within rows ends (suc m) m n (omega arith) h is
    | inr past ↦ absurd (false≢true (rw (get_or_past (ancestors (row_parents rows)) m [] (omega (arith, length-ancestors (row_parents rows), length-map rows (λ (r : Row). r.parent)))) at is))
  ],
  λ s. under_within rows ends (suc m) m n (omega arith) (omega arith) s.0 s.1,
)
