-- Names among others. A name is a list of bytes in UTF-8.
use Rattle.std.specs.Prelude.{ℕ, Bool, List, nat_eq}
use Rattle.std.specs.List.{list_any}
use Rattle.std.specs.Cmp.Lexicographic.{pointwise}

-- whether the name is one of the names
abbrev pub is_among : List ℕ → List (List ℕ) → Bool
is_among name names = list_any (λ other. pointwise nat_eq other name) names
