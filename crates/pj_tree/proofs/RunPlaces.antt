-- The places that runs say.
use Rattle.std.proofs.Common.{ℕ, zero, suc, ◌≡◌, ◌+◌, ◌-◌, ◌*◌, ◌/◌, ◌<◌, ◌≤◌, nat_le, if◌then◌else◌, Bool, true, false, List, [], ◌∷◌, ◌++◌, length, get_or, replicate, refl, ap, sym, ◌∙◌, arith, add-zero, inl, inr, Some, append_assoc}
use Rattle.std.specs.List.{slice_get}
use Rattle.std.specs.List.Sorted.{IsPartitionPoint}
use Rattle.std.specs.Str.{chars}
use Rattle.std.specs.Char.{len_utf8}
use Rattle.std.proofs.lemmas.Bool.{cases_Bool, cases_eq, cases_lt, lt-leb, le-leb, leb-true, leb-false}
use Rattle.std.proofs.lemmas.List.{length_push, get_or_append_left, get_or_push, append-nil, replicate_more}
use Rattle.std.proofs.lemmas.Option.{slice_get-get_or}
use Rattle.std.proofs.lemmas.Nat.{div-mul-add}
use Rattle.std.proofs.Math.Nat.{div-le_self}
use Rattle.std.proofs.lemmas.Str.{len_utf8_bounds}
use Rattle.pj_tree.specs.Places.{places_of, places_from, place_behind, ends_line, first_place}
use Rattle.pj_tree.specs.Runs.{run_for, run_at, no_run, place_by, place_in, each_below, places_by, IsLineMap, AreRuns, Takes, SameBelow, Continues, AreMapped, last_run}
use Rattle.pj_tree.specs.declared.node.Place.{Place}
use Rattle.pj_tree.specs.declared.run.Run.{Run}

-- no run begins at the offset or before
run_for-none : (r : Run) (ss : List Run) (o : ℕ) → ((k : ℕ) → k < length ss → o < (run_at ss k).from) → run_for r ss o ≡ r
run_for-none r [] o past = refl
run_for-none r (s ∷ ss) o past = rw (lt-leb s.from o (past 0 (omega arith))) (run_for-none r ss o (λ k h. past (suc k) (omega arith)))

-- the m-th run begins at the offset or before, and no later one does
pub run_for-at : (r : Run) (ss : List Run) (o m : ℕ) → m < length ss → (run_at ss m).from ≤ o → ((k : ℕ) → m < k → k < length ss → o < (run_at ss k).from) → run_for r ss o ≡ run_at ss m
run_for-at r [] o m h low past = absurd (omega arith)
run_for-at r (s ∷ ss) o zero h low past = rw (le-leb s.from o low) (run_for-none s ss o (λ k l. past (suc k) (omega arith) (omega arith)))
run_for-at r (s ∷ ss) o (suc m) h low past =
    elim (cases_Bool (nat_le s.from o)) [
      | inl e ↦ rw e (run_for-at s ss o m (omega arith) low (λ k a l. past (suc k) (omega arith) (omega arith)))
      | inr e ↦ rw e (run_for-at r ss o m (omega arith) low (λ k a l. past (suc k) (omega arith) (omega arith)))
    ]

-- a run more that begins behind the offset
run_for-push : (r : Run) (ss : List Run) (s : Run) (o : ℕ) → o < s.from → run_for r (ss ++ s ∷ []) o ≡ run_for r ss o
run_for-push r [] s o h = rw (lt-leb s.from o h) refl
run_for-push r (x ∷ xs) s o h = elim (cases_Bool (nat_le x.from o)) [
  | inl e ↦ rw e (run_for-push x xs s o h)
  | inr e ↦ rw e (run_for-push r xs s o h)
]

pub same_below_push : (runs : List Run) (s : Run) (offset : ℕ) → s.from ≡ offset → SameBelow runs (runs ++ s ∷ []) offset
same_below_push runs s offset e k h = ap (λ (r : Run). place_in r k) (run_for-push no_run runs s k (omega arith))

-- ---- lists of values below a number

pub length-each_below : (f : ℕ → Place) (n : ℕ) → length (each_below f n) ≡ n
length-each_below f zero = refl
length-each_below f (suc n) = omega (arith, length_push (each_below f n) (f n), length-each_below f n)

pub get_or-each_below : (f : ℕ → Place) (n k : ℕ) (d : Place) → k < n → get_or (each_below f n) k d ≡ f k
get_or-each_below f zero k d h = absurd (omega arith)
get_or-each_below f (suc n) k d h = elim (cases_eq k n) [
  | inl e ↦ rw e (get_or_push (each_below f n) (f n) d n (length-each_below f n))
  | inr other ↦ get_or_append_left (each_below f n) (f n ∷ []) d k (omega (arith, length-each_below f n, other)) ∙ get_or-each_below f n k d (omega (arith, other))
]

each_below-same : (f g : ℕ → Place) (n : ℕ) → ((k : ℕ) → k < n → g k ≡ f k) → each_below g n ≡ each_below f n
each_below-same f g zero same = refl
each_below-same f g (suc n) same = rw (each_below-same f g n (λ k h. same k (omega arith)), same n (omega arith)) refl

-- w values more that are all one
each_below-more : (f : ℕ → Place) (n w : ℕ) (p : Place) → ((j : ℕ) → j < w → f (n + j) ≡ p) → each_below f (n + w) ≡ each_below f n ++ replicate w p
each_below-more f n zero p same = rw (add-zero, append-nil) refl
each_below-more f n (suc w) p same =
    let before : each_below f (n + w) ≡ each_below f n ++ replicate w p = each_below-more f n w p (λ j h. same j (omega arith)) in
    let more : w + 1 ≡ suc w = omega arith in
    let here : f (n + w) ≡ p = same w (omega arith) in
    let one : n + suc w ≡ suc (n + w) = omega arith in
    let next : each_below f (n + suc w) ≡ each_below f (suc (n + w)) = ap (each_below f) one in
    next ∙ (rw (before, here) (append_assoc (each_below f n) (replicate w p) (p ∷ []) ∙ ap (λ (ps : List Place). each_below f n ++ ps) (replicate_more w p ∙ ap (λ (k : ℕ). replicate k p) more)))

pub slice_get-each_below : (f : ℕ → Place) (n k : ℕ) → k < n → slice_get (each_below f n) k ≡ Some (f k)
slice_get-each_below f n k h = slice_get-get_or (each_below f n) k first_place (omega (arith, length-each_below f n)) ∙ ap Some (get_or-each_below f n k first_place h)

-- ---- a look-up

-- the run before the i-th is that of the offset
pub record IsFound (runs : List Run) (offset i : ℕ) : Type 0 where
  pub some : 0 < i
  pub in_runs : i - 1 < length runs
  pub low : (run_at runs (i - 1)).from ≤ offset
  pub is : place_by runs offset ≡ place_in (run_at runs (i - 1)) offset

pub found : (runs : List Run) (end offset i : ℕ) → IsLineMap runs end → i ≤ length runs → IsPartitionPoint (λ r. nat_le r.from offset ≡ true) (λ r. nat_le r.from offset ≡ false) runs i → IsFound runs offset i
found runs end offset i s h split = record {
  some = some;
  in_runs = omega (arith, some);
  low = low;
  is = ap (λ (r : Run). place_in r offset) (run_for-at no_run runs offset (i - 1) (omega (arith, some)) low
      (λ k a l. leb-false (run_at runs k).from offset (split.1 k no_run (omega (arith, some)) l)));
}
  where
    some : 0 < i
    some = elim (cases_lt 0 i) [
      | inl h' ↦ h'
      | inr none ↦ absurd (omega (arith, s.begins, leb-false (run_at runs 0).from offset (split.1 0 no_run none s.some)))
    ]

    low : (run_at runs (i - 1)).from ≤ offset
    low = leb-true (run_at runs (i - 1)).from offset (split.0 (i - 1) no_run (omega arith) (omega (arith, some)))

-- the column of an offset is no greater than the number of bytes up to it
pub column_fits : (runs : List Run) (end offset k : ℕ) → IsLineMap runs end → k < length runs → (run_at runs k).from ≤ offset → offset ≤ end
    → (run_at runs k).place.column + (offset - (run_at runs k).from) / (run_at runs k).width < 4294967296
column_fits runs end offset k s h low within =
    let wide : 0 < (run_at runs k).width = s.widths k h in
    omega (arith, s.columns k h, s.small, div-le_self (offset - (run_at runs k).from) (run_at runs k).width)

-- ---- a walk over a text

-- before the first character
pub walk_begins : (text : List ℕ) → length text ≤ 4294967294 → AreMapped text (record { from = 0; width = 1; place = first_place } ∷ []) 0 first_place text
unfolding places_of
walk_begins text h = record {
  runs_are = record {
    map = record {
      some = omega arith;
      begins = refl;
      sorted = λ i j a b. sorted i j a b;
      within = λ i a. within i a;
      widths = λ i a. widths i a;
      columns = λ i a. columns i a;
      small = omega arith;
    };
    column = omega arith;
    line = omega arith;
    same_line = λ e. record { passed = 0; at = refl; column = refl };
  };
  len = omega arith;
  places = refl;
}
  where
    runs : List Run
    runs = record { from = 0; width = 1; place = first_place } ∷ []

    sorted : (i j : ℕ) → i ≤ j → j < 1 → (run_at runs i).from ≤ (run_at runs j).from
    sorted zero zero a b = omega arith
    sorted zero (suc j) a b = absurd (omega arith)
    sorted (suc i) j a b = absurd (omega arith)

    within : (i : ℕ) → i < 1 → (run_at runs i).from ≤ 0
    within zero a = omega arith
    within (suc i) a = absurd (omega arith)

    widths : (i : ℕ) → i < 1 → 0 < (run_at runs i).width
    widths zero a = omega arith
    widths (suc i) a = absurd (omega arith)

    columns : (i : ℕ) → i < 1 → (run_at runs i).place.column ≤ (run_at runs i).from + 1
    columns zero a = omega arith
    columns (suc i) a = absurd (omega arith)

-- each byte of the character that the last run takes has the character's place
taken : (runs : List Run) (offset width j : ℕ) (place : Place) → AreRuns runs offset place → Takes runs offset width place → j < width → place_by runs (offset + j) ≡ place
taken runs offset width j place s t h =
    let last : ℕ = length runs - 1 in
    let in_runs : last < length runs = omega (arith, s.map.some) in
    let low : (run_at runs last).from ≤ offset + j = omega (arith, s.map.within last in_runs) in
    let at : run_for no_run runs (offset + j) ≡ run_at runs last = run_for-at no_run runs (offset + j) last in_runs low (λ k a b. absurd (omega arith)) in
    let on : Continues (run_at runs last) offset place = s.same_line t.line_is in
    let apart : offset + j - (run_at runs last).from ≡ on.passed * (run_at runs last).width + j = omega (arith, on.at) in
    let columns : (offset + j - (run_at runs last).from) / (run_at runs last).width ≡ on.passed = rw apart (div-mul-add on.passed (run_at runs last).width j (omega (arith, t.width_is))) in
    ap (λ (r : Run). place_in r (offset + j)) at ∙ (ap (λ (n : ℕ). place_on (run_at runs last).place.line ((run_at runs last).place.column + n)) columns
    ∙ rw (t.line_is, ← on.column) refl)
  where
    place_on : ℕ → ℕ → Place
    place_on line column = record { line = line; column = column }

-- the end, where the last run goes on
pub walk_ends : (text : List ℕ) (runs after : List Run) (offset : ℕ) (place : Place) (rest : List ℕ) → AreMapped text runs offset place rest → chars rest ≡ []
    → AreRuns after offset place → Takes after offset 1 place → SameBelow runs after offset → places_by after offset ≡ places_of text
walk_ends text runs after offset place rest s none r t same =
    each_below-more (place_by after) offset 1 place (λ j h. taken after offset 1 j place r t h)
    ∙ (ap (λ (ps : List Place). ps ++ place ∷ []) (each_below-same (place_by runs) (place_by after) offset same)
    ∙ sym (s.places ∙ ap (λ (cs : List ℕ). each_below (place_by runs) offset ++ places_from place cs) none))

-- one character more
pub walk_on : (text : List ℕ) (runs after : List Run) (offset : ℕ) (place : Place) (rest behind : List ℕ) (c : ℕ) → length text ≤ 4294967294 → AreMapped text runs offset place rest
    → chars rest ≡ c ∷ chars behind → length rest ≡ len_utf8 c + length behind
    → AreRuns after offset place → Takes after offset (len_utf8 c) place → SameBelow runs after offset
    → AreMapped text after (offset + len_utf8 c) (place_behind place c (chars behind)) behind
walk_on text runs after offset place rest behind c few s first len r t same = record {
  runs_are = record {
    map = record {
      some = r.map.some;
      begins = r.map.begins;
      sorted = r.map.sorted;
      within = λ i h. omega (arith, r.map.within i h);
      widths = r.map.widths;
      columns = r.map.columns;
      small = omega (arith, s.len, len);
    };
    column = column (ends_line c (chars behind));
    line = line (ends_line c (chars behind));
    same_line = on (ends_line c (chars behind));
  };
  len = omega (arith, s.len, len);
  places = s.places ∙ (ap (λ (cs : List ℕ). each_below (place_by runs) offset ++ places_from place cs) first
      ∙ (sym (append_assoc (each_below (place_by runs) offset) (replicate (len_utf8 c) place) (places_from (place_behind place c (chars behind)) (chars behind)))
      ∙ ap (λ (ps : List Place). ps ++ places_from (place_behind place c (chars behind)) (chars behind))
      (sym (each_below-more (place_by after) offset (len_utf8 c) place (λ j h. taken after offset (len_utf8 c) j place r t h)
      ∙ ap (λ (ps : List Place). ps ++ replicate (len_utf8 c) place) (each_below-same (place_by runs) (place_by after) offset same)))));
}
  where
    wide : 1 ≤ len_utf8 c
    wide = (len_utf8_bounds c).0

    next : Bool → Place
    next ends = if ends then record { line = place.line + 1; column = 1 } else record { line = place.line; column = place.column + 1 }

    column : (ends : Bool) → (next ends).column ≤ offset + len_utf8 c + 1
    column true = omega (arith, wide)
    column false = omega (arith, wide, r.column)

    line : (ends : Bool) → (next ends).line ≤ offset + len_utf8 c + 1
    line true = omega (arith, wide, r.line)
    line false = omega (arith, wide, r.line)

    on : (ends : Bool) → (last_run after).place.line ≡ (next ends).line → Continues (last_run after) (offset + len_utf8 c) (next ends)
    on true e = absurd (omega (arith, t.line_is, e))
    on false e =
        let before : Continues (last_run after) offset place = r.same_line t.line_is in
        record { passed = before.passed + 1; at = omega (arith, before.at, t.width_is); column = omega (arith, before.column) }
