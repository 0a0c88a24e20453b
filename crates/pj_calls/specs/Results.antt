-- The type of a call of a method (JLS 15.12.3): its result, in which its own type parameters are replaced by what the arguments say of them (in the place of JLS 18.5).
use Rattle.std.specs.Prelude.{ℕ, ◌&&◌, Bool, true, false, Option, None, Some, unwrap_or, if◌then◌else◌, List, [], ◌∷◌, map}
use Rattle.pj_names.specs.JavaType.{JavaType, Primitive, Void, Null, Class, Array, Variable, Unknown}
use Rattle.pj_names.specs.Asking.{Asking, Return, bind}
use Rattle.pj_signatures.specs.Types.{MethodTypes}
use Rattle.pj_types.specs.Conversions.{boxed}
use Rattle.pj_types.specs.Substitution.{erased, substituted}
use Rattle.pj_written.specs.Words.{same_text}
use Rattle.pj_operators.specs.Same.{same_type}
use Rattle.pj_calls.specs.Candidates.{Candidates}
use Rattle.pj_calls.specs.Choosing.{Chosen, chosen_among}

-- ---- what arguments say of a type parameter

-- whether a type is just the type variable
abbrev pub is_variable : List ℕ → JavaType → Bool
is_variable name (Primitive prim) = false
is_variable name Void = false
is_variable name Null = false
is_variable name (Class class arguments) = false
is_variable name (Array member) = false
is_variable name (Variable variable bound) = same_text variable name
is_variable name Unknown = false

-- the boxed types of the arguments for the parameters whose type is just that variable; of a last parameter `T...` none is
abbrev pub passed_for : List ℕ → List JavaType → List JavaType → List JavaType
passed_for name [] arguments = []
passed_for name (parameter ∷ parameters) [] = []
passed_for name (parameter ∷ parameters) (argument ∷ arguments) =
    if is_variable name parameter then boxed argument ∷ passed_for name parameters arguments else passed_for name parameters arguments

abbrev pub all_same : JavaType → List JavaType → Bool
all_same ty [] = true
all_same ty (other ∷ types) = same_type ty other && all_same ty types

-- the type that all of some are, with its type arguments
abbrev pub common : List JavaType → Option JavaType
common [] = None
common (ty ∷ types) = if all_same ty types then Some ty else None

-- ---- what stands in the place of the type parameters

-- That type, where there are such arguments and they agree, and else the erased bound.
abbrev pub inferred : MethodTypes → List JavaType → (List ℕ × JavaType) → JavaType
inferred types arguments parameter = unwrap_or (common (passed_for parameter.0 types.arguments arguments)) (erased parameter.1)

abbrev pub all_inferred : MethodTypes → List JavaType → List (List ℕ × JavaType)
all_inferred types arguments = map (λ parameter. (parameter.0, inferred types arguments parameter)) types.params

-- ---- the result

abbrev pub result_type : MethodTypes → List JavaType → JavaType
result_type types arguments = substituted (all_inferred types arguments) types.returned

-- where none is chosen it is not known
abbrev pub result_or_unknown : Option Chosen → JavaType
result_or_unknown None = Unknown
result_or_unknown (Some chosen) = result_type chosen.method.types chosen.arguments

-- that of the method that is chosen among candidates
abbrev pub chosen_result : Candidates → List JavaType → List ℕ → Asking JavaType
chosen_result candidates arguments functions = bind (chosen_among candidates arguments functions) (λ found. Return (result_or_unknown found))
