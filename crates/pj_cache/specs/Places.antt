-- Lists of byte strings in strict order, and places in them.
use Rattle.std.specs.Prelude.{ℕ, suc, List, [], ◌∷◌, slice_get, unwrap_or, if◌then◌else◌}
use Rattle.std.specs.Cmp.Lexicographic.{slice_cmp}
use Rattle.std.specs.declared.cmp.Ordering.{Ordering}
use Rattle.std.specs.Ordering.{is_lt, nat_cmp}

-- byte strings by their bytes
abbrev pub byte_order : List ℕ → List ℕ → Ordering
byte_order = slice_cmp nat_cmp

-- the member at a place, which is empty where there is none
abbrev pub member_at : List (List ℕ) → ℕ → List ℕ
member_at list place = unwrap_or (slice_get list place) []

-- the place of a member of a list in strict order: the number of those in front that are below it
abbrev pub place_in : List (List ℕ) → List ℕ → ℕ
place_in [] x = 0
place_in (y ∷ ys) x = if is_lt (byte_order y x) then suc (place_in ys x) else 0
