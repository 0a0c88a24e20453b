-- The variables that are bound around a place, in the code.
use Rattle.std.specs.Prelude.{◌≡◌, ℕ, ◌+◌, List, [], ◌∷◌, map, reverse, unwrap_or, if◌then◌else◌}
use Rattle.std.specs.Borrow.{Bor}
use Rattle.std.specs.BTreeMap.{BTreeMap, get_by}
use Rattle.std.specs.Cmp.Lexicographic.{slice_cmp}
use Rattle.std.specs.Ordering.{nat_cmp}
use Rattle.std.specs.Str.{bytes_eq}
use Rattle.pj_xparse.specs.declared.bound.BoundNames.{BoundNames}

-- the names, from the one on that was bound last, which stands last
abbrev pub names_in : List (Bor (List ℕ)) → List (List ℕ)
names_in names = map (λ name. name.now) (reverse names)

-- how often the map says that the name is bound
abbrev pub count_in : BTreeMap (Bor (List ℕ)) ℕ → List ℕ → ℕ
count_in counts name = unwrap_or (get_by (λ key. slice_cmp nat_cmp name key.now) counts) 0

-- how often the name is among names
abbrev pub times : List ℕ → List (List ℕ) → ℕ
times name [] = 0
times name (other ∷ names) = (if bytes_eq other name then 1 else 0) + times name names

-- the map says how often each name is among the names
abbrev pub AreCounts : BTreeMap (Bor (List ℕ)) ℕ → List (List ℕ) → Type 0
AreCounts counts names = (name : List ℕ) → count_in counts name ≡ times name names

-- the names that are bound
abbrev pub names_of : BoundNames → List (List ℕ)
names_of bound = names_in bound.names.items

-- the counts are right
abbrev pub IsCounted : BoundNames → Type 0
IsCounted bound = AreCounts bound.counts (names_of bound)
