-- What a call passes: its arguments.
use Rattle.std.specs.Prelude.{ℕ, ◌+◌, ◌==◌, Bool, List, [], ◌∷◌, if◌then◌else◌}
use Rattle.std.specs.List.{list_any}
use Rattle.pj_names.specs.JavaType.{JavaType}
use Rattle.pj_types.specs.Substitution.{erased}

-- An argument is a lambda expression or a method reference, JLS 15.13 and 15.27, which has no type of its own, or it is an
-- expression of a type, which is erased.
pub data Argument : Type 0 where
  Function : Argument
  Typed : JavaType → Argument

-- whether a place is among some
abbrev pub has_place : List ℕ → ℕ → Bool
has_place places place = list_any (λ other. other == place) places

-- the argument at a place, counted from 0, where those at some places are functions
abbrev pub argument_at : List ℕ → ℕ → JavaType → Argument
argument_at functions place ty = if has_place functions place then Function else Typed (erased ty)

-- the arguments from a place on
abbrev pub arguments_from : List ℕ → ℕ → List JavaType → List Argument
arguments_from functions place [] = []
arguments_from functions place (ty ∷ types) = argument_at functions place ty ∷ arguments_from functions (place + 1) types

-- The arguments of a call: their types, and the places of those that are lambda expressions or method references. What stands
-- as the type of such a one plays no part.
abbrev pub arguments_of : List ℕ → List JavaType → List Argument
arguments_of functions types = arguments_from functions 0 types
