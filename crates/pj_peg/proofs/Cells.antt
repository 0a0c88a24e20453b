-- The cells of a table of rows.
use Rattle.std.proofs.Common.{◌≡◌, ℕ, ◌+◌, ◌<◌, List, [], ◌∷◌, ◌++◌, length, map, Vec, Global, Option, Some, None, refl, sym, ◌∙◌, subst, ap, ⊎_elim, arith, get_or, IsSome, is_some}
use Rattle.std.specs.Prelude.{slice_get, slice_set}
use Rattle.std.specs.Option.{option_map, option_and_then}
use Rattle.std.specs.Vec.{with_item}
use Rattle.std.proofs.lemmas.Option.{slice_get_within, slice_get-map, get_or_from_slice_get}
use Rattle.std.proofs.lemmas.Bool.{cases_eq}
use Rattle.std.proofs.lemmas.List.{length_push}
use Rattle.pj_peg.specs.declared.slots.KindSlots.{KindSlots}
use Rattle.pj_peg.specs.Slots.{row_number}
use Rattle.pj_peg.specs.Table.{cell_at}
use Rattle.pj_peg.proofs.Lists.{some_same, found, get_push_cases, set_here, set_other}

abbrev Row : Type 0
Row = Vec (Option ℕ) Global

abbrev pub cells_of : Row → List (Option ℕ)
cells_of row = row.items

pub some_is : {A : Type 0} (o : Option A) (x : A) → o ≡ Some x → IsSome o
some_is {A} o x e = ap (is_some {T = A}) e

pub is_some_that : {A : Type 0} (o : Option A) → IsSome o → (x : A) × (o ≡ Some x)
is_some_that (Some x) h = (x, refl)
is_some_that None h = absurd (let z = h in cc)

cell_row : (rows : List Row) (i c : ℕ) (row : Row) → slice_get rows i ≡ Some row → cell_at (map cells_of rows) i c ≡ slice_get row.items c
cell_row rows i c row is = ap (option_and_then (λ (r : List (Option ℕ)). slice_get r c)) (slice_get-map cells_of rows i ∙ ap (option_map cells_of) is)

row_of : (rows : List Row) (i c : ℕ) → IsSome (cell_at (map cells_of rows) i c) → (row : Row) × (slice_get rows i ≡ Some row) × (c < length row.items)
row_of rows i c there = of (slice_get rows i) refl
  where
    of : (o : Option Row) → slice_get rows i ≡ o → (row : Row) × (slice_get rows i ≡ Some row) × (c < length row.items)
    of (Some row) e =
        let (x, is) = is_some_that (slice_get row.items c) (subst IsSome (cell_row rows i c row e) there) in
        (row, e, slice_get_within row.items c x is)
    of None e =
        let nothing : cell_at (map cells_of rows) i c ≡ None = ap (option_and_then (λ (r : List (Option ℕ)). slice_get r c)) (slice_get-map cells_of rows i ∙ ap (option_map cells_of) e) in
        absurd (let z = subst IsSome nothing there in cc)

module _ (rows : List Row) (i r : ℕ) (v : Option ℕ) (d : Row) (is_row : d ≡ get_or rows i d) (there : IsSome (cell_at (map cells_of rows) i r)) where
  abbrev after : List Row
  after = slice_set rows i (with_item d r v)

  the_row : slice_get rows i ≡ Some d
  the_row =
      let (row, is, lt) = row_of rows i r there in
      is ∙ ap Some (sym (is_row ∙ get_or_from_slice_get rows i row d is))

  within : r < length d.items
  within =
      let (row, is, lt) = row_of rows i r there in
      subst (λ (x : Row). r < length x.items) (some_same is the_row) lt

  here_row : slice_get after i ≡ Some (with_item d r v)
  here_row = set_here rows i (with_item d r v) (slice_get_within rows i d the_row)

  pub cell_here : cell_at (map cells_of (slice_set rows i (with_item d r v))) i r ≡ Some v
  cell_here = cell_row after i r (with_item d r v) here_row ∙ set_here d.items r v within

  pub cell_others : (j c : ℕ) → (j ≡ i → c ≡ r → ⊥) → cell_at (map cells_of (slice_set rows i (with_item d r v))) j c ≡ cell_at (map cells_of rows) j c
  cell_others j c differs = ⊎_elim
      (λ (same : j ≡ i).
      let here : cell_at (map cells_of after) i c ≡ cell_at (map cells_of rows) i c =
      cell_row after i c (with_item d r v) here_row ∙ set_other d.items r c v (differs same) ∙ sym (cell_row rows i c d the_row) in
      subst (λ n. cell_at (map cells_of after) n c ≡ cell_at (map cells_of rows) n c) (sym same) here)
      (λ (other : j ≡ i → ⊥).
      ap (option_and_then (λ (x : List (Option ℕ)). slice_get x c))
      (slice_get-map cells_of after j ∙ ap (option_map cells_of) (set_other rows i j (with_item d r v) other) ∙ sym (slice_get-map cells_of rows j)))
      (cases_eq j i)

-- the first rows of a text, of which each has nothing in its slots
pub record AreUnknown (kinds : List ℕ) (slots : List KindSlots) (rows : List Row) (n : ℕ) : Type 0 where
  pub count : length rows ≡ n
  pub unknown : (i s : ℕ) (here : KindSlots) (row : Row) → slice_get rows i ≡ Some row → slice_get slots (row_number kinds i) ≡ Some here → s < here.width → slice_get row.items s ≡ Some None

pub unknown_none : (kinds : List ℕ) (slots : List KindSlots) (rows : List Row) → rows ≡ [] → AreUnknown kinds slots rows 0
unknown_none kinds slots rows is = record {
  count = ap length is;
  unknown = λ i s here row at _ _. absurd (let z = sym (ap (λ l. slice_get l i) is) ∙ at in cc);
}

pub unknown_more : (kinds : List ℕ) (slots : List KindSlots) (rows rows' : List Row) (row : Row) (n : ℕ) (here : KindSlots) → AreUnknown kinds slots rows n → rows' ≡ rows ++ row ∷ [] →
    slice_get slots (row_number kinds n) ≡ Some here → ((s : ℕ) → s < here.width → slice_get row.items s ≡ Some None) → AreUnknown kinds slots rows' (n + 1)
unknown_more kinds slots rows rows' row n here are is at none = record {
  count = ap length is ∙ length_push rows row ∙ ap (λ m. m + 1) are.count;
  unknown = λ i s there x found_row found_slots lt. ⊎_elim
      (λ (h : slice_get rows i ≡ Some x). are.unknown i s there x h found_slots lt)
      (λ (h : (i ≡ length rows) × (row ≡ x)).
      let same : there ≡ here = some_same (sym (ap (λ m. slice_get slots (row_number kinds m)) (h.0 ∙ are.count)) ∙ found_slots) at in
      ap (λ (y : Row). slice_get y.items s) (sym h.1) ∙ none s (subst (λ (y : KindSlots). s < y.width) same lt))
      (get_push_cases rows row i x (sym (ap (λ l. slice_get l i) is) ∙ found_row));
}

pub unknown_cells : (kinds : List ℕ) (slots : List KindSlots) (rows : List Row) (n : ℕ) → AreUnknown kinds slots rows n → (i s : ℕ) (here : KindSlots) → i < n → slice_get slots (row_number kinds i) ≡ Some here → s < here.width →
    cell_at (map cells_of rows) i s ≡ Some None
unknown_cells kinds slots rows n are i s here lt at within =
    let count = are.count in
    let (row, is) = found rows i (omega arith) in
    cell_row rows i s row is ∙ are.unknown i s here row is at within
