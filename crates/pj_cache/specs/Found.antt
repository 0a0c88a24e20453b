-- The entry of a path in a cache.
use Rattle.std.specs.Prelude.{ℕ, List, [], ◌∷◌, Option, Some, None, nat_eq, if◌then◌else◌}
use Rattle.std.specs.Cmp.Lexicographic.{pointwise}
use Rattle.pj_cache.specs.declared.cache.Entry.{Entry}

-- the first member that has a byte string, if there is one
abbrev pub first_named : {A : Type 0} → (A → List ℕ) → List A → List ℕ → Option A
first_named name_of [] name = None
first_named name_of (x ∷ xs) name = if pointwise nat_eq (name_of x) name then Some x else first_named name_of xs name

-- the entry of a path, if there is one
abbrev pub entry_of : List Entry → List ℕ → Option Entry
entry_of entries path = first_named (λ (e : Entry). e.path) entries path
