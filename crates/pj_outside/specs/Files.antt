-- Files, as pairs of a path and bytes.
use Rattle.std.specs.Prelude.{⊤, ◌≢◌, ◌≤◌, ℕ, List, [], ◌∷◌, ◌++◌, All, Bool, IsTrue, ◌||◌, nat_lt, nat_eq, length, map, filter, if◌then◌else◌, Option, Some, None}
use Rattle.std.specs.List.{starts_with}
use Rattle.std.specs.Cmp.Lexicographic.{pointwise}
use Rattle.pj_outside.specs.declared.refused.Reading.{Reading}
use Rattle.pj_outside.specs.declared.refused.Reading.TheVariants.{Absent, Longer, Whole}

-- a text, as its UTF-8 bytes, or any other byte string
abbrev pub Bytes : Type 0
Bytes = List ℕ

-- pairs of a path and bytes
abbrev pub Files : Type 0
Files = List (Bytes × Bytes)

abbrev pub is_same : Bytes → Bytes → Bool
is_same a b = pointwise nat_eq a b

-- the path is this one, or begins with it and `/`
abbrev pub is_at_or_below : Bytes → Bytes → Bool
is_at_or_below at path = is_same path at || starts_with nat_eq path (at ++ 47 ∷ [])

abbrev pub none_if_empty : List Bytes → Option (List Bytes)
none_if_empty [] = None
none_if_empty (p ∷ ps) = Some (p ∷ ps)

-- the paths there and below, in the order of the files, each as often as it stands there; none where there is no such path
abbrev pub listed_at : Files → Bytes → Option (List Bytes)
listed_at files at = none_if_empty (filter (is_at_or_below at) (map (λ f. f.0) files))

-- the bytes of the first file of the path
abbrev pub bytes_at : Files → Bytes → Option Bytes
bytes_at [] path = None
bytes_at (f ∷ fs) path = if is_same f.0 path then Some f.1 else bytes_at fs path

abbrev pub reading_of : ℕ → Option Bytes → Reading
reading_of most None = Absent
reading_of most (Some bytes) = if nat_lt most (length bytes) then Longer else Whole bytes

-- what a reading of at most so many bytes gives
abbrev pub read_at : Files → Bytes → ℕ → Reading
read_at files path most = reading_of most (bytes_at files path)

-- Whole bytes are not more than were asked for.
abbrev pub IsAtMost : ℕ → Reading → Type 0
IsAtMost most Absent = ⊤
IsAtMost most Longer = ⊤
IsAtMost most (Whole bytes) = length bytes ≤ most

-- There is a path, where there is a list of paths.
abbrev pub HasPath : Option (List Bytes) → Type 0
HasPath None = ⊤
HasPath (Some paths) = paths ≢ []

-- The paths are all this one or below it, where there is a list of paths.
abbrev pub AreAtOrBelow : Bytes → Option (List Bytes) → Type 0
AreAtOrBelow at None = ⊤
AreAtOrBelow at (Some paths) = All (λ path. IsTrue (is_at_or_below at path)) paths
