-- The places that runs say.
use Rattle.std.proofs.Common.{ℕ, zero, suc, ◌≡◌, ◌+◌, ◌-◌, ◌*◌, ◌/◌, ◌<◌, ◌≤◌, nat_le, true, false, List, [], ◌∷◌, ◌++◌, length, get_or, replicate, refl, ap, sym, ◌∙◌, arith, add-zero, inl, inr, Some, append_assoc, subst}
use Rattle.std.specs.List.{slice_get}
use Rattle.std.specs.List.Sorted.{IsPartitionPoint}
use Rattle.std.proofs.lemmas.Bool.{cases_Bool, cases_eq, cases_lt, lt-leb, le-leb, leb-true, leb-false}
use Rattle.std.proofs.lemmas.List.{length_push, get_or_append_left, get_or_push, append-nil, replicate_more}
use Rattle.std.proofs.lemmas.Option.{slice_get-get_or}
use Rattle.std.proofs.lemmas.Nat.{div-mul-add}
use Rattle.std.proofs.Math.Nat.{div-le_self}
use Rattle.pj_tree.specs.Places.{first_place}
use Rattle.pj_tree.specs.declared.node.Place.{Place}
use Rattle.pj_source.specs.SourceRuns.{run_for, run_at, no_run, place_by, place_in, each_below, AreInOrder, AreRuns, Takes, SameBelow, last_run}
use Rattle.pj_source.specs.declared.source.run.Run.{Run}

-- no run begins at the offset or before
run_for-none : (r : Run) (ss : List Run) (o : ℕ) → ((k : ℕ) → k < length ss → o < (run_at ss k).from) → run_for r ss o ≡ r
run_for-none r [] o past = refl
run_for-none r (s ∷ ss) o past = rw (lt-leb s.from o (past 0 (omega arith))) (run_for-none r ss o (λ k h. past (suc k) (omega arith)))

-- the m-th run begins at the offset or before, and no later one does
pub run_for-at : (r : Run) (ss : List Run) (o m : ℕ) → m < length ss → (run_at ss m).from ≤ o → ((k : ℕ) → m < k → k < length ss → o < (run_at ss k).from) → run_for r ss o ≡ run_at ss m
run_for-at r [] o m h low past = absurd (omega arith)
run_for-at r (s ∷ ss) o zero h low past = rw (le-leb s.from o low) (run_for-none s ss o (λ k l. past (suc k) (omega arith) (omega arith)))
run_for-at r (s ∷ ss) o (suc m) h low past =
    elim (cases_Bool (nat_le s.from o)) [
      | inl e ↦ rw e (run_for-at s ss o m (omega arith) low (λ k a l. past (suc k) (omega arith) (omega arith)))
      | inr e ↦ rw e (run_for-at r ss o m (omega arith) low (λ k a l. past (suc k) (omega arith) (omega arith)))
    ]

-- a run more that begins behind the offset
run_for-push : (r : Run) (ss : List Run) (s : Run) (o : ℕ) → o < s.from → run_for r (ss ++ s ∷ []) o ≡ run_for r ss o
run_for-push r [] s o h = rw (lt-leb s.from o h) refl
run_for-push r (x ∷ xs) s o h = elim (cases_Bool (nat_le x.from o)) [
  | inl e ↦ rw e (run_for-push x xs s o h)
  | inr e ↦ rw e (run_for-push r xs s o h)
]

pub same_below_push : (runs : List Run) (s : Run) (offset : ℕ) → s.from ≡ offset → SameBelow runs (runs ++ s ∷ []) offset
same_below_push runs s offset e k h = ap (λ (r : Run). place_in r k) (run_for-push no_run runs s k (omega arith))

-- ---- lists of values below a number

pub length-each_below : (f : ℕ → Place) (n : ℕ) → length (each_below f n) ≡ n
length-each_below f zero = refl
length-each_below f (suc n) = omega (arith, length_push (each_below f n) (f n), length-each_below f n)

get_or-each_below : (f : ℕ → Place) (n k : ℕ) (d : Place) → k < n → get_or (each_below f n) k d ≡ f k
get_or-each_below f zero k d h = absurd (omega arith)
get_or-each_below f (suc n) k d h = elim (cases_eq k n) [
  | inl e ↦ rw e (get_or_push (each_below f n) (f n) d n (length-each_below f n))
  | inr other ↦ get_or_append_left (each_below f n) (f n ∷ []) d k (omega (arith, length-each_below f n, other)) ∙ get_or-each_below f n k d (omega (arith, other))
]

each_below-same : (f g : ℕ → Place) (n : ℕ) → ((k : ℕ) → k < n → g k ≡ f k) → each_below g n ≡ each_below f n
each_below-same f g zero same = refl
each_below-same f g (suc n) same = rw (each_below-same f g n (λ k h. same k (omega arith)), same n (omega arith)) refl

-- w values more that are all one
each_below-more : (f : ℕ → Place) (n w : ℕ) (p : Place) → ((j : ℕ) → j < w → f (n + j) ≡ p) → each_below f (n + w) ≡ each_below f n ++ replicate w p
each_below-more f n zero p same = rw (add-zero, append-nil) refl
each_below-more f n (suc w) p same =
    let before : each_below f (n + w) ≡ each_below f n ++ replicate w p = each_below-more f n w p (λ j h. same j (omega arith)) in
    let more : w + 1 ≡ suc w = omega arith in
    let here : f (n + w) ≡ p = same w (omega arith) in
    let one : n + suc w ≡ suc (n + w) = omega arith in
    let next : each_below f (n + suc w) ≡ each_below f (suc (n + w)) = ap (each_below f) one in
    next ∙ (rw (before, here) (append_assoc (each_below f n) (replicate w p) (p ∷ []) ∙ ap (λ (ps : List Place). each_below f n ++ ps) (replicate_more w p ∙ ap (λ (k : ℕ). replicate k p) more)))

pub slice_get-each_below : (f : ℕ → Place) (n k : ℕ) → k < n → slice_get (each_below f n) k ≡ Some (f k)
slice_get-each_below f n k h = slice_get-get_or (each_below f n) k first_place (omega (arith, length-each_below f n)) ∙ ap Some (get_or-each_below f n k first_place h)

-- ---- a look-up

-- the run before the i-th is that of the offset
pub record IsFound (runs : List Run) (offset i : ℕ) : Type 0 where
  pub some : 0 < i
  pub in_runs : i - 1 < length runs
  pub low : (run_at runs (i - 1)).from ≤ offset
  pub is : place_by runs offset ≡ place_in (run_at runs (i - 1)) offset

pub found : (runs : List Run) (end offset i : ℕ) → AreInOrder runs end 0 → i ≤ length runs → IsPartitionPoint (λ r. nat_le r.from offset ≡ true) (λ r. nat_le r.from offset ≡ false) runs i → IsFound runs offset i
found runs end offset i s h split = record {
  some = some;
  in_runs = omega (arith, some);
  low = low;
  is = ap (λ (r : Run). place_in r offset) (run_for-at no_run runs offset (i - 1) (omega (arith, some)) low
      (λ k a l. leb-false (run_at runs k).from offset (split.1 k no_run (omega (arith, some)) l)));
}
  where
    some : 0 < i
    some = elim (cases_lt 0 i) [
      | inl h' ↦ h'
      | inr none ↦ absurd (omega (arith, s.begins, leb-false (run_at runs 0).from offset (split.1 0 no_run none s.some)))
    ]

    low : (run_at runs (i - 1)).from ≤ offset
    low = leb-true (run_at runs (i - 1)).from offset (split.0 (i - 1) no_run (omega arith) (omega (arith, some)))

-- ---- a walk over a text

-- each byte of the character that the last run takes has the character's place
taken : (runs : List Run) (offset left width j : ℕ) (place : Place) → AreRuns runs offset left → Takes runs offset width place → j < width → place_by runs (offset + j) ≡ place
taken runs offset left width j place s t h =
    let last : ℕ = length runs - 1 in
    let in_runs : last < length runs = omega (arith, s.order.some) in
    let low : (run_at runs last).from ≤ offset + j = omega (arith, s.order.within last in_runs) in
    let at : run_for no_run runs (offset + j) ≡ run_at runs last = run_for-at no_run runs (offset + j) last in_runs low (λ k a b. absurd (omega arith)) in
    let wide : 0 < (run_at runs last).width = s.order.widths last in_runs in
    let apart : offset + j - (run_at runs last).from ≡ s.passed * (run_at runs last).width + j = omega (arith, s.whole) in
    let before : offset - (run_at runs last).from ≡ s.passed * (run_at runs last).width + 0 = omega (arith, s.whole) in
    let columns : (offset + j - (run_at runs last).from) / (run_at runs last).width ≡ s.passed = rw apart (div-mul-add s.passed (run_at runs last).width j (omega (arith, t.width_is))) in
    let columns_before : (offset - (run_at runs last).from) / (run_at runs last).width ≡ s.passed = rw before (div-mul-add s.passed (run_at runs last).width 0 wide) in
    ap (λ (r : Run). place_in r (offset + j)) at ∙ (ap (λ (n : ℕ). place_on (run_at runs last).place.line ((run_at runs last).place.column + n)) (columns ∙ sym columns_before) ∙ t.place_is)
  where
    place_on : ℕ → ℕ → Place
    place_on line column = record { line = line; column = column }

-- the places with a character more
pub places_more : (runs after : List Run) (offset left width : ℕ) (place : Place) (before : List Place) → before ≡ each_below (place_by runs) offset
    → AreRuns after offset left → Takes after offset width place → SameBelow runs after offset
    → before ++ replicate width place ≡ each_below (place_by after) (offset + width)
places_more runs after offset left width place before is r t same =
    sym (each_below-more (place_by after) offset width place (λ j h. taken after offset left width j place r t h)
    ∙ ap (λ (ps : List Place). ps ++ replicate width place) (each_below-same (place_by runs) (place_by after) offset same ∙ sym is))

-- the runs behind a character more
pub runs_more : (runs : List Run) (offset left width less : ℕ) (place : Place) → AreRuns runs offset left → Takes runs offset width place → width + less ≤ left → AreRuns runs (offset + width) less
runs_more runs offset left width less place r t fits = record {
  order = record {
    some = r.order.some;
    begins = r.order.begins;
    sorted = r.order.sorted;
    within = λ i h. omega (arith, r.order.within i h);
    widths = r.order.widths;
    columns = λ i h. omega (arith, r.order.columns i h);
    small = omega (arith, r.order.small);
  };
  passed = r.passed + 1;
  whole = omega (arith, r.whole, t.width_is);
}

-- fewer bytes are left
pub runs_less : (runs : List Run) (offset left less : ℕ) → AreRuns runs offset left → less ≤ left → AreRuns runs offset less
runs_less runs offset left less r fits = record {
  order = record {
    some = r.order.some;
    begins = r.order.begins;
    sorted = r.order.sorted;
    within = r.order.within;
    widths = r.order.widths;
    columns = λ i h. omega (arith, r.order.columns i h);
    small = omega (arith, r.order.small);
  };
  passed = r.passed;
  whole = r.whole;
}

-- the runs with a run more, which begins at the offset
pub runs_push : (runs : List Run) (s : Run) (offset left : ℕ) → AreRuns runs offset left → s.from ≡ offset → 0 < s.width → s.place.column + left ≤ 4294967295 → AreRuns (runs ++ s ∷ []) offset left
runs_push runs s offset left r from wide column = record {
  order = record {
    some = omega (arith, length_push runs s);
    begins = ap (λ (x : Run). x.from) (old 0 r.order.some) ∙ r.order.begins;
    sorted = sorted;
    within = λ i h. along (λ (x : Run). x.from ≤ offset) i h (λ k. r.order.within i k) (omega (arith, from));
    widths = λ i h. along (λ (x : Run). 0 < x.width) i h (λ k. r.order.widths i k) wide;
    columns = λ i h. along (λ (x : Run). x.place.column + (offset + left) ≤ x.from + 4294967295) i h (λ k. r.order.columns i k) (omega (arith, from));
    small = r.order.small;
  };
  passed = 0;
  whole = sym (ap (λ (x : Run). 0 * x.width + x.from) last ∙ zeroed s.width s.from ∙ from);
}
  where
    zeroed : (w f : ℕ) → 0 * w + f ≡ f
    zeroed w f = omega arith

    old : (i : ℕ) → i < length runs → run_at (runs ++ s ∷ []) i ≡ run_at runs i
    old i h = get_or_append_left runs (s ∷ []) no_run i h

    new : run_at (runs ++ s ∷ []) (length runs) ≡ s
    new = get_or_push runs s no_run (length runs) refl

    last : last_run (runs ++ s ∷ []) ≡ s
    last = let e : length (runs ++ s ∷ []) - 1 ≡ length runs = omega (arith, length_push runs s) in ap (run_at (runs ++ s ∷ [])) e ∙ new

    along : (P : Run → Type 0) (i : ℕ) → i < length (runs ++ s ∷ []) → (i < length runs → P (run_at runs i)) → P s → P (run_at (runs ++ s ∷ []) i)
    along P i h before here = elim (cases_lt i (length runs)) [
      | inl l ↦ subst P (sym (old i l)) (before l)
      | inr m ↦ let e : i ≡ length runs = omega (arith, length_push runs s) in subst P (sym (ap (run_at (runs ++ s ∷ [])) e ∙ new)) here
    ]

    sorted : (i j : ℕ) → i ≤ j → j < length (runs ++ s ∷ []) → (run_at (runs ++ s ∷ []) i).from ≤ (run_at (runs ++ s ∷ []) j).from
    sorted i j a b = along (λ (x : Run). (run_at (runs ++ s ∷ []) i).from ≤ x.from) j b
        (λ k. let l : i < length runs = omega arith in rw (old i l) (r.order.sorted i j a k))
        (along (λ (x : Run). x.from ≤ s.from) i (omega arith) (λ k. omega (arith, r.order.within i k, from)) (omega arith))

pub takes_push : (runs : List Run) (s : Run) (offset : ℕ) → s.from ≡ offset → Takes (runs ++ s ∷ []) offset s.width s.place
takes_push runs s offset from = record {
  width_is = ap (λ (x : Run). x.width) last;
  place_is = ap (λ (x : Run). place_in x offset) last ∙ here;
}
  where
    last : last_run (runs ++ s ∷ []) ≡ s
    last = let e : length (runs ++ s ∷ []) - 1 ≡ length runs = omega (arith, length_push runs s) in ap (run_at (runs ++ s ∷ [])) e ∙ get_or_push runs s no_run (length runs) refl

    place_on : ℕ → ℕ → Place
    place_on line column = record { line = line; column = column }

    div_none : (offset - s.from) / s.width ≤ 0
    div_none = let e : offset - s.from ≡ 0 = omega arith in rw e (div-le_self 0 s.width)

    here : place_in s offset ≡ s.place
    here = let none : (offset - s.from) / s.width ≡ 0 = omega (arith, div_none) in let e : s.place.column + (offset - s.from) / s.width ≡ s.place.column = omega arith in ap (place_on s.place.line) e

-- the runs of no text
pub runs_none : (place : Place) (left : ℕ) → left ≤ 4294967294 → place.column + left ≤ 4294967295 → AreRuns (record { from = 0; width = 1; place = place } ∷ []) 0 left
runs_none place left few column = record {
  order = record {
    some = omega arith;
    begins = refl;
    sorted = sorted;
    within = within;
    widths = widths;
    columns = columns;
    small = omega arith;
  };
  passed = 0;
  whole = omega arith;
}
  where
    runs : List Run
    runs = record { from = 0; width = 1; place = place } ∷ []

    sorted : (i j : ℕ) → i ≤ j → j < 1 → (run_at runs i).from ≤ (run_at runs j).from
    sorted zero zero a b = omega arith
    sorted zero (suc j) a b = absurd (omega arith)
    sorted (suc i) j a b = absurd (omega arith)

    within : (i : ℕ) → i < 1 → (run_at runs i).from ≤ 0
    within zero a = omega arith
    within (suc i) a = absurd (omega arith)

    widths : (i : ℕ) → i < 1 → 0 < (run_at runs i).width
    widths zero a = omega arith
    widths (suc i) a = absurd (omega arith)

    columns : (i : ℕ) → i < 1 → (run_at runs i).place.column + (0 + left) ≤ (run_at runs i).from + 4294967295
    columns zero a = omega arith
    columns (suc i) a = absurd (omega arith)
