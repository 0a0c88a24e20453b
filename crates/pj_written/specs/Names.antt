-- Names of classes with dots, as they are written (JLS 6.2, 6.5.5).
use Rattle.std.specs.Prelude.{ℕ, ◌&&◌, Bool, false, not, Option, None, Some, if◌then◌else◌, List, [], ◌∷◌, ◌++◌, filter, codes, nat_le}
use Rattle.std.specs.Option.{option_map_or}
use Rattle.std.specs.Path.{rsplit_once}
use Rattle.pj_written.specs.Words.{same_text}

-- `A` to `Z` in front, as classes begin by the conventions of JLS 6.1
abbrev pub begins_as_class : List ℕ → Bool
begins_as_class [] = false
begins_as_class (c ∷ cs) = nat_le 65 c && nat_le c 90

-- `a` to `z` in front, as packages do
abbrev pub begins_with_small_letter : List ℕ → Bool
begins_with_small_letter [] = false
begins_with_small_letter (c ∷ cs) = nat_le 97 c && nat_le c 122

-- ---- candidates

-- what stands before the last dot, 46, and behind it
abbrev pub around_last_dot : List ℕ → Option (List ℕ × List ℕ)
around_last_dot text = rsplit_once 46 text

-- what stands behind it, and all of a text without one
abbrev pub last_part : List ℕ → List ℕ
last_part text = option_map_or (λ parts. parts.1) (around_last_dot text) text

-- the name with its last dot made `$`, 36, where what stands left of the dot ends in a part that begins with A to Z
abbrev pub nested : List ℕ × List ℕ → Option (List ℕ)
nested parts = if begins_as_class (last_part parts.0) then Some (parts.0 ++ 36 ∷ parts.1) else None

-- A name does not tell where its package ends and its member classes begin (JLS 6.5.2, 13.1). What may be meant besides `a.B.C` is `a.B$C`.
abbrev pub next_candidate : List ℕ → Option (List ℕ)
next_candidate text = option_map_or nested (around_last_dot text) None

-- ---- parts

abbrev pub is_dot : List ℕ → Bool
is_dot word = same_text word (codes ".")

-- the parts that a class type has of its own: its words but the dots between them
abbrev pub own_parts : List (List ℕ) → List (List ℕ)
own_parts words = filter (λ word. not (is_dot word)) words

-- whether the first part of a text begins a package: it begins with `a` to `z`, and another part follows
abbrev pub begins_package : List (List ℕ) → Bool
begins_package [] = false
begins_package (only ∷ []) = false
begins_package (first ∷ (second ∷ more)) = begins_with_small_letter first

-- ---- parts with dots between them

-- a part, behind a dot where it is not the first
abbrev pub part_behind : Bool → List ℕ → List ℕ
part_behind is_first part = if is_first then part else 46 ∷ part

abbrev pub further_parts : List (List ℕ) → List ℕ
further_parts [] = []
further_parts (part ∷ more) = 46 ∷ (part ++ further_parts more)

-- the first, and then each further one behind a dot
abbrev pub with_dots : List (List ℕ) → List ℕ
with_dots [] = []
with_dots (first ∷ more) = first ++ further_parts more
