-- The test of a class name, read from the left.
use Rattle.std.proofs.Common.{ℕ, Bool, true, false, List, [], ◌∷◌}
use Rattle.std.specs.Prelude.{◌&&◌}
use Rattle.std.specs.List.{list_all}
use Rattle.pj_names.specs.ClassName.{parts, is_name_byte, is_unqualified, is_class_name}

-- the rest of a part that has begun is good
abbrev pub goes_on : List ℕ → Bool
goes_on part = list_all is_name_byte part

-- whether the parts are good, the first of which has begun
abbrev pub after_begin : List (List ℕ) → Bool
after_begin [] = true
after_begin (part ∷ rest) = goes_on part && list_all is_unqualified rest

-- what is left spells the rest of a name, whose part has begun or not
abbrev pub spells_from : Bool → List ℕ → Bool
spells_from true bs = after_begin (parts bs)
spells_from false bs = is_class_name bs
