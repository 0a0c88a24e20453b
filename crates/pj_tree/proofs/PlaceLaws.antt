-- The places of a text, counted.
use Rattle.std.proofs.Common.{ℕ, zero, suc, ◌≡◌, ◌+◌, ◌<◌, nat_lt, Bool, true, false, cond, if◌then◌else◌, ◌||◌, List, [], ◌∷◌, ◌++◌, length, replicate, refl, ap, sym, ◌∙◌, arith, inl, inr, Some, zero-add, add-zero, append-nil, length-append}
use Rattle.std.specs.List.{slice_get}
use Rattle.std.specs.Str.{chars, IsUtf8}
use Rattle.std.specs.Char.{len_utf8}
use Rattle.std.proofs.lemmas.Bool.{cases_Bool, lt-ltb}
use Rattle.std.proofs.lemmas.List.{length-replicate}
use Rattle.std.proofs.lemmas.Str.{encodes-chars, length-encode}
use lib.Utf8.{encode, encodes}
use Rattle.pj_tree.specs.Places.{places_of, places_from, place_behind, place_past, first_place, ends_line, line_ends, on_line, size, ArePlacesOf}
use Rattle.pj_tree.specs.declared.node.Place.{Place}

-- ---- lengths

length-places_from : (at : Place) (cs : List ℕ) → length (places_from at cs) ≡ size cs + 1
length-places_from at [] = refl
length-places_from at (c ∷ cs) =
    omega (arith, length-append (replicate (len_utf8 c) at) (places_from (place_behind at c cs) cs), length-replicate (len_utf8 c) at, length-places_from (place_behind at c cs) cs)

size-encodes : (cs : List ℕ) → length (encodes cs) ≡ size cs
size-encodes [] = refl
size-encodes (c ∷ cs) = omega (arith, length-append (encode c) (encodes cs), length-encode c, size-encodes cs)

pub size-chars : (text : List ℕ) → IsUtf8 text → size (chars text) ≡ length text
size-chars text utf8 = sym (size-encodes (chars text)) ∙ ap length (encodes-chars text utf8)

-- a text has one place more than bytes
pub length-places_of : (text : List ℕ) → IsUtf8 text → length (places_of text) ≡ length text + 1
unfolding places_of
length-places_of text utf8 = omega (arith, length-places_from first_place (chars text), size-chars text utf8)

-- ---- the place behind some characters

walk : Place → List ℕ → List ℕ → Place
walk at [] rest = at
walk at (c ∷ cs) rest = walk (place_behind at c (cs ++ rest)) cs rest

past_copies : (w i : ℕ) (p : Place) (ps : List Place) → slice_get (replicate w p ++ ps) (w + i) ≡ slice_get ps i
past_copies zero i p ps = rw zero-add refl
past_copies (suc w) i p ps = let e : suc w + i ≡ suc (w + i) = omega arith in rw e (past_copies w i p ps)

in_copies : (w k : ℕ) (p : Place) (ps : List Place) → k < w → slice_get (replicate w p ++ ps) k ≡ Some p
in_copies zero k p ps h = absurd (omega arith)
in_copies (suc w) zero p ps h = refl
in_copies (suc w) (suc k) p ps h = in_copies w k p ps (omega arith)

at_past : (at : Place) (before rest : List ℕ) (j : ℕ) → slice_get (places_from at (before ++ rest)) (size before + j) ≡ slice_get (places_from (walk at before rest) rest) j
unfolding walk
at_past at [] rest j = rw zero-add refl
at_past at (c ∷ cs) rest j =
    let next : Place = place_behind at c (cs ++ rest) in
    let e : len_utf8 c + size cs + j ≡ len_utf8 c + (size cs + j) = omega arith in
    rw e (past_copies (len_utf8 c) (size cs + j) at (places_from next (cs ++ rest)) ∙ at_past next cs rest j)

abbrev placed : ℕ → ℕ → Place
placed line column = record { line = line; column = column }

-- where the walk stands, by what it passed
abbrev walked : Place → ℕ → ℕ → Place
walked at ends on = record { line = at.line + ends; column = cond (nat_lt 0 ends) (1 + on) (at.column + on) }

same_place : (l m c d : ℕ) → l ≡ m → c ≡ d → placed l c ≡ placed m d
same_place l m c d e f = rw (e, f) refl

-- one character more in front, which ends a line or not
step_by : (at : Place) (ends : Bool) (n on : ℕ)
    → walked (if ends then record { line = at.line + 1; column = 1 } else record { line = at.line; column = at.column + 1 }) n on
    ≡ walked at ((if ends then 1 else 0) + n) (if ends || nat_lt 0 n then on else 1 + on)
step_by at true n on =
    let more : nat_lt 0 (1 + n) ≡ true = lt-ltb 0 (1 + n) (omega arith) in
    elim (cases_Bool (nat_lt 0 n)) [
      | inl e ↦ rw (more, e) (same_place (at.line + 1 + n) (at.line + (1 + n)) (1 + on) (1 + on) (omega arith) refl)
      | inr e ↦ rw (more, e) (same_place (at.line + 1 + n) (at.line + (1 + n)) (1 + on) (1 + on) (omega arith) refl)
    ]
step_by at false n on =
    let same : 0 + n ≡ n = omega arith in
    elim (cases_Bool (nat_lt 0 n)) [
      | inl e ↦ rw (same, e) (same_place (at.line + n) (at.line + n) (1 + on) (1 + on) refl refl)
      | inr e ↦ rw (same, e) (same_place (at.line + n) (at.line + n) (at.column + 1 + on) (at.column + (1 + on)) refl (omega arith))
    ]

walk-is : (at : Place) (before rest : List ℕ) → walk at before rest ≡ walked at (line_ends before rest) (on_line before rest)
unfolding walk
walk-is at [] rest = rw (add-zero, add-zero) refl
walk-is at (c ∷ cs) rest = walk-is (place_behind at c (cs ++ rest)) cs rest ∙ step_by at (ends_line c (cs ++ rest)) (line_ends cs rest) (on_line cs rest)

walk-first : (before rest : List ℕ) → walk first_place before rest ≡ place_past before rest
walk-first before rest = walk-is first_place before rest ∙ elim (cases_Bool (nat_lt 0 (line_ends before rest))) [
  | inl e ↦ rw e refl
  | inr e ↦ rw e refl
]

-- ---- the law

pub places_are : (text : List ℕ) → IsUtf8 text → ArePlacesOf text (places_of text)
unfolding places_of
places_are text utf8 = record {
  len = length-places_of text utf8;
  inside = λ before rest c k split h.
      ap (λ (cs : List ℕ). slice_get (places_from first_place cs) (size before + k)) split
      ∙ (at_past first_place before (c ∷ rest) k
      ∙ (in_copies (len_utf8 c) k (walk first_place before (c ∷ rest)) (places_from (place_behind (walk first_place before (c ∷ rest)) c rest) rest) h
      ∙ ap Some (walk-first before (c ∷ rest))));
  end =
      let all : chars text ++ [] ≡ chars text = append-nil (chars text) in
      let at : size (chars text) + 0 ≡ length text = rw add-zero (size-chars text utf8) in
      ap (λ (n : ℕ). slice_get (places_from first_place (chars text)) n) (sym at)
      ∙ (ap (λ (cs : List ℕ). slice_get (places_from first_place cs) (size (chars text) + 0)) (sym all)
      ∙ (at_past first_place (chars text) [] 0 ∙ ap Some (walk-first (chars text) [])));
}
