-- The names of attributes.
use Rattle.std.specs.Prelude.{◌≡◌, ℕ, Bool, false, ◌||◌, List, [], ◌∷◌, nat_eq}
use Rattle.std.specs.Cmp.Lexicographic.{pointwise, slice_cmp}
use Rattle.std.specs.List.{list_any}
use Rattle.std.specs.Ordering.{eq_by_cmp, nat_cmp}
use Rattle.pj_markup.specs.declared.element.Attribute.{Attribute}

-- whether an attribute has the name
abbrev pub has_name : List ℕ → List Attribute → Bool
has_name name [] = false
has_name name (a ∷ attributes) = pointwise nat_eq a.name name || has_name name attributes

-- the keys are the names of the attributes
abbrev pub AreNames : List (List ℕ) → List Attribute → Type 0
AreNames keys attributes = (name : List ℕ) → list_any (eq_by_cmp (slice_cmp nat_cmp) name) keys ≡ has_name name attributes
