-- Functions of sequences (XPath Functions and Operators, 15.1).
use Rattle.std.specs.Prelude.{ℕ, suc, ℤ, pos, Bool, true, false, not, ◌&&◌, List, [], ◌∷◌, ◌++◌, reverse, Result, Ok, nat_eq, if◌then◌else◌, ◌+ℤ◌, int_le, int_lt}
use Rattle.std.specs.List.{list_any}
use Rattle.std.specs.Ordering.{int_eq}
use Rattle.std.specs.Cmp.Lexicographic.{pointwise}
use Rattle.pj_xvalue.specs.declared.fault.XCode.{XCode}
use Rattle.pj_xvalue.specs.Atomic.{only_atomic}
use Rattle.pj_xvalue.specs.Items.{ItemValue, String, Integer, Boolean}
use Rattle.pj_xvalue.specs.Arguments.{and_then, atomic, integer}

-- `reverse` (15.1.9)
abbrev pub reversed : List ItemValue → Result (List ItemValue) XCode
reversed items = Ok (reverse items)

-- ---- places, counted from 1

-- the members at the places that are kept, where the first stands at a place
abbrev pub kept_from : {A : Type 0} → (ℤ → Bool) → ℕ → List A → List A
kept_from keeps place [] = []
kept_from keeps place (x ∷ xs) = if keeps (pos place) then x ∷ kept_from keeps (suc place) xs else kept_from keeps (suc place) xs

abbrev pub at_places : {A : Type 0} → (ℤ → Bool) → List A → List A
at_places keeps xs = kept_from keeps 1 xs

-- whether a place is one from `start` on
abbrev pub is_from : ℤ → ℤ → Bool
is_from start place = int_le start place

-- whether a place is one of `length` places from `start` on
abbrev pub is_within : ℤ → ℤ → ℤ → Bool
is_within start length place = int_le start place && int_lt place (start +ℤ length)

-- `subsequence` of two arguments (15.1.10)
abbrev pub subsequence_from : List ItemValue → List ItemValue → Result (List ItemValue) XCode
subsequence_from items start = and_then (integer start) (λ first. Ok (at_places (is_from first) items))

-- `subsequence` with a length
abbrev pub subsequence : List ItemValue → List ItemValue → List ItemValue → Result (List ItemValue) XCode
subsequence items start length = and_then (integer start) (λ first. and_then (integer length) (λ number. Ok (at_places (is_within first number) items)))

-- ---- equal values

abbrev pub same_boolean : Bool → Bool → Bool
same_boolean true b = b
same_boolean false b = not b

-- whether two atomic values are equal, as `eq` has it: values of two types are different
abbrev pub same : ItemValue → ItemValue → Bool
same (String a) (String b) = pointwise nat_eq a b
same (Integer a) (Integer b) = int_eq a b
same (Boolean a) (Boolean b) = same_boolean a b
same _ _ = false

-- the values that equal none of those before them
abbrev pub first_occurrences : List ItemValue → List ItemValue → List ItemValue
first_occurrences before [] = []
first_occurrences before (x ∷ xs) = if list_any (same x) before then first_occurrences (before ++ x ∷ []) xs else x ∷ first_occurrences (before ++ x ∷ []) xs

-- `distinct-values` (15.1.6): the first of each, in order
abbrev pub distinct_values : List ItemValue → Result (List ItemValue) XCode
distinct_values items = and_then (only_atomic items) (λ values. Ok (first_occurrences [] values))

-- the places of the values that are equal to one that is sought, where the first stands at a place
abbrev pub places_from : ItemValue → ℕ → List ItemValue → List ItemValue
places_from sought place [] = []
places_from sought place (x ∷ xs) = if same x sought then Integer (pos place) ∷ places_from sought (suc place) xs else places_from sought (suc place) xs

-- `index-of` (15.1.3)
abbrev pub index_of : List ItemValue → List ItemValue → Result (List ItemValue) XCode
index_of items sought = and_then (only_atomic items) (λ values. and_then (atomic sought) (λ value. Ok (places_from value 1 values)))
