-- Whether a type, or a class above it, has a name.
use Rattle.std.specs.Prelude.{ℕ, Bool, List, Option, Some, None, if◌then◌else◌}
use Rattle.pj_names.specs.ClassName.{Name}
use Rattle.pj_names.specs.JavaType.{JavaType, Primitive, Void, Null, Class, Array, Variable, Unknown}
use Rattle.pj_names.specs.Asking.{Asking, Return, bind}
use Rattle.pj_types.specs.Along.{first_along}
use Rattle.pj_types.specs.Subtyping.{is_hit}
use Rattle.pj_type_tests.specs.Names.{has_name}

-- a type that has the name is a hit
abbrev pub is_called : List ℕ → JavaType → Asking (Option (Unit {0}))
is_called text ty = Return (if has_name text ty then Some tt else None)

-- Whether a class or one of its supertypes, JLS 4.10.2, has the name: it is looked for along the list of supertypes, up to the first class that has it. The
-- name itself is never asked.
unfoldable pub class_is : List ℕ → Name → Asking Bool
class_is text name = bind (first_along (is_called text) name) (λ hit. Return (is_hit hit))

-- Whether a type is of the name, or under a class of the name. A type variable is looked at by its erasure, JLS 4.6; a primitive type and an array are by
-- their names alone.
abbrev pub type_is : List ℕ → JavaType → Asking Bool
type_is text (Primitive prim) = Return (has_name text (Primitive prim))
type_is text Void = Return (has_name text Void)
type_is text Null = Return (has_name text Null)
type_is text (Class name arguments) = class_is text name
type_is text (Array component) = Return (has_name text (Array component))
type_is text (Variable name bound) = type_is text bound
type_is text Unknown = Return (has_name text Unknown)
