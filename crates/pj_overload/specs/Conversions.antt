-- How an argument fits a parameter: invocation contexts, JLS 5.3. All types are erased.
use Rattle.std.specs.Prelude.{Bool, true, false, Option, Some, None}
use Rattle.pj_names.specs.declared.ty.PrimitiveType.{PrimitiveType}
use Rattle.pj_names.specs.JavaType.{JavaType, Primitive, Void, Null, Class, Array, Variable, Unknown}
use Rattle.pj_names.specs.Asking.{Asking, Return}
use Rattle.pj_types.specs.Conversions.{boxed_type, unboxed}
use Rattle.pj_types.specs.Subtyping.{is_under}
use Rattle.pj_overload.specs.Testing.{or_then}

abbrev pub primitive_type : Option PrimitiveType → Option JavaType
primitive_type None = None
primitive_type (Some prim) = Some (Primitive prim)

-- what boxing or unboxing makes of a type, where one of them is of it
abbrev pub converted : JavaType → Option JavaType
converted (Primitive prim) = Some (boxed_type prim)
converted Void = None
converted Null = None
converted (Class name arguments) = primitive_type (unboxed name)
converted (Array member) = None
converted (Variable name bound) = None
converted Unknown = None

-- whether a type is under another one, where there is one
abbrev pub is_some_under : Option JavaType → JavaType → Asking Bool
is_some_under None parameter = Return false
is_some_under (Some ty) parameter = is_under ty parameter

-- a strict invocation context: by subtyping alone
abbrev pub fits_strictly : JavaType → JavaType → Asking Bool
fits_strictly argument parameter = is_under argument parameter

-- A loose invocation context: by subtyping, or else by boxing or unboxing, and then by subtyping of what that makes.
abbrev pub fits_loosely : JavaType → JavaType → Asking Bool
fits_loosely argument parameter = or_then (is_under argument parameter) (is_some_under (converted argument) parameter)

-- what a lambda expression and a method reference fit, whether it is a functional interface or not
abbrev pub is_class : JavaType → Bool
is_class (Primitive prim) = false
is_class Void = false
is_class Null = false
is_class (Class name arguments) = true
is_class (Array member) = false
is_class (Variable name bound) = false
is_class Unknown = false
