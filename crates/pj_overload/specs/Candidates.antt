-- The methods among which one is chosen.
use Rattle.std.specs.Prelude.{ℕ, zero, suc, ◌+◌, ◌-◌, ◌/◌, ◌%◌, ◌==◌, Bool, true, false, ◌&&◌, List, [], ◌∷◌, length, map, slice_get, Option, Some, None}
use Rattle.pj_names.specs.JavaType.{JavaType, Primitive, Void, Null, Class, Array, Variable, Unknown}
use Rattle.pj_types.specs.Members.{FoundMethod}
use Rattle.pj_types.specs.Substitution.{erased}

-- A candidate: its number among the methods, counted from 0; the types of its parameters, erased; and whether it is a method of
-- variable arity, JLS 8.4.1.
pub record Candidate : Type 0 where
  pub number : ℕ
  pub parameters : List JavaType
  pub has_variable_arity : Bool

abbrev pub is_array : JavaType → Bool
is_array (Primitive prim) = false
is_array Void = false
is_array Null = false
is_array (Class name arguments) = false
is_array (Array member) = true
is_array (Variable name bound) = false
is_array Unknown = false

-- the last of some types, where there are some
abbrev pub last_of : List JavaType → Option JavaType
last_of types = slice_get types (length types - 1)

abbrev pub is_some_array : Option JavaType → Bool
is_some_array None = false
is_some_array (Some ty) = is_array ty

-- whether there are some types of which the last one is an array
abbrev pub ends_in_array : List JavaType → Bool
ends_in_array types = is_some_array (last_of types)

-- the flag of a method of variable arity, 0x0080, JVMS 4.6
abbrev pub is_flagged_variable : ℕ → Bool
is_flagged_variable flags = flags / 128 % 2 == 1

-- types erased, JLS 4.6
abbrev pub all_erased : List JavaType → List JavaType
all_erased types = map erased types

abbrev pub candidate_of : ℕ → FoundMethod → Candidate
candidate_of number method =
    let parameters = all_erased method.types.arguments in
    record { number = number; parameters = parameters; has_variable_arity = is_flagged_variable method.flags && ends_in_array parameters }

-- those from a number on
abbrev pub candidates_from : ℕ → List FoundMethod → List Candidate
candidates_from number [] = []
candidates_from number (method ∷ methods) = candidate_of number method ∷ candidates_from (number + 1) methods

abbrev pub candidates_of : List FoundMethod → List Candidate
candidates_of methods = candidates_from 0 methods

-- the type of the members of an array
abbrev pub member_of : JavaType → JavaType
member_of (Primitive prim) = Primitive prim
member_of Void = Void
member_of Null = Null
member_of (Class name arguments) = Class name arguments
member_of (Array member) = member
member_of (Variable name bound) = Variable name bound
member_of Unknown = Unknown

-- The first variable arity parameter types of a method, so many of them, JLS 15.12.2.4: those before the last one, and then the type
-- of the members of the last one, again and again.
abbrev pub variable_arity_types : ℕ → List JavaType → List JavaType
variable_arity_types zero parameters = []
variable_arity_types (suc count) [] = []
variable_arity_types (suc count) (last ∷ []) = member_of last ∷ variable_arity_types count (last ∷ [])
variable_arity_types (suc count) (first ∷ (second ∷ more)) = first ∷ variable_arity_types count (second ∷ more)
