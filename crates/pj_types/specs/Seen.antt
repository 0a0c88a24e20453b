-- What the code keeps, as the definitions have it.
use Rattle.std.specs.Prelude.{ℕ, List, map, Option, Some, None}
use Rattle.pj_names.specs.declared.ty.Ty.{Ty}
use Rattle.pj_names.specs.declared.ty.Types.{Types}
use Rattle.pj_names.specs.JavaType.{JavaType, Arguments, java_types, bound_types}
use Rattle.pj_types.specs.declared.listed.ListedClass.{ListedClass}
use Rattle.pj_types.specs.declared.listed.Writing.{Writing}
use Rattle.pj_types.specs.declared.listed.Writing.TheVariants.{AsDeclared, Bound, Erased}
use Rattle.pj_types.specs.Substitution.{substituted, erased}
use Rattle.pj_types.specs.Supertypes.{Listed}

-- type arguments, if they are there
abbrev pub seen_arguments : Option Types → Option Arguments
seen_arguments None = None
seen_arguments (Some arguments) = Some (java_types arguments)

-- a class on a list
abbrev pub listed : ListedClass → Listed
listed class = record { name = class.name; arguments = seen_arguments class.arguments }

-- classes on a list
abbrev pub all_listed : List ListedClass → List Listed
all_listed classes = map listed classes

-- pairs, if they are there
abbrev pub seen_bindings : Option (List (List ℕ × Ty)) → Option (List (List ℕ × JavaType))
seen_bindings None = None
seen_bindings (Some bindings) = Some (bound_types bindings)

-- a supertype as it is written
abbrev pub written_by : Writing → JavaType → JavaType
written_by AsDeclared ty = ty
written_by (Bound bindings) ty = substituted (bound_types bindings) ty
written_by Erased ty = erased ty
