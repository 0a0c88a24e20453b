-- Subtyping, JLS 4.10.
use Rattle.std.specs.Prelude.{◌==◌, Bool, true, false, ◌||◌, List, [], ◌∷◌, Option, Some, None, codes, if◌then◌else◌, nat_eq}
use Rattle.std.specs.List.{list_any}
use Rattle.std.specs.Cmp.Lexicographic.{pointwise}
use denote.Enum.Declared.{tag_of}
use Rattle.pj_names.specs.contracts.ty.PrimitiveType as primitives
use Rattle.pj_names.specs.declared.ty.PrimitiveType.{PrimitiveType}
use Rattle.pj_names.specs.declared.ty.PrimitiveType.TheVariants.{Boolean, Byte, Short, Int, Long, Char, Float, Double}
use Rattle.pj_names.specs.ClassName.{Name, is_object}
use Rattle.pj_names.specs.JavaType.{JavaType, Primitive, Void, Null, Class, Array, Variable, Unknown}
use Rattle.pj_names.specs.Asking.{Asking, Return, bind}
use Rattle.pj_types.specs.Substitution.{erased}
use Rattle.pj_types.specs.Supertypes.{search}

-- A primitive type with those above it, JLS 4.10.1, the nearest first: each is a direct supertype of the one before it.
abbrev pub from_float : List PrimitiveType
from_float = Float ∷ Double ∷ []

abbrev pub from_int : List PrimitiveType
from_int = Int ∷ Long ∷ from_float

abbrev pub primitive_supertypes : PrimitiveType → List PrimitiveType
primitive_supertypes Boolean = Boolean ∷ []
primitive_supertypes Byte = Byte ∷ Short ∷ from_int
primitive_supertypes Short = Short ∷ from_int
primitive_supertypes Int = from_int
primitive_supertypes Long = Long ∷ from_float
primitive_supertypes Char = Char ∷ from_int
primitive_supertypes Float = from_float
primitive_supertypes Double = Double ∷ []

abbrev pub is_same_primitive : PrimitiveType → PrimitiveType → Bool
is_same_primitive first second = tag_of primitives.the_type first == tag_of primitives.the_type second

abbrev pub is_primitive_under : PrimitiveType → PrimitiveType → Bool
is_primitive_under lower upper = list_any (is_same_primitive upper) (primitive_supertypes lower)

-- whether a type is the class of a name
abbrev pub is_class_of : Name → JavaType → Bool
is_class_of name (Primitive prim) = false
is_class_of name Void = false
is_class_of name Null = false
is_class_of name (Class other arguments) = pointwise nat_eq other name
is_class_of name (Array member) = false
is_class_of name (Variable other bound) = false
is_class_of name Unknown = false

-- the class of a name is a hit
abbrev pub is_named : Name → JavaType → Asking (Option (Unit {0}))
is_named name ty = Return (if is_class_of name ty then Some tt else None)

abbrev pub is_hit : {A : Type 0} → Option A → Bool
is_hit None = false
is_hit (Some hit) = true

-- whether a class is on the list of supertypes of another one: it is looked for along the list
unfoldable pub is_on_list : Name → Name → Asking Bool
is_on_list lower upper = bind (search (is_named upper) lower) (λ outcome. Return (is_hit outcome.0))

-- A class is under the classes of its list of supertypes. Equal names are looked at first, without asking.
unfoldable pub is_class_under : Name → Name → Asking Bool
is_class_under lower upper = if pointwise nat_eq lower upper then Return true else is_on_list lower upper

-- the classes above every array, JLS 4.10.3
abbrev pub is_above_arrays : Name → Bool
is_above_arrays name = is_object name || (pointwise nat_eq name (codes "java.lang.Cloneable") || pointwise nat_eq name (codes "java.io.Serializable"))

-- The type of `null` is under itself and each class and array.
abbrev pub is_null_under : JavaType → Bool
is_null_under (Primitive prim) = false
is_null_under Void = false
is_null_under Null = true
is_null_under (Class name arguments) = true
is_null_under (Array member) = true
is_null_under (Variable name bound) = false
is_null_under Unknown = false

abbrev pub is_void : JavaType → Bool
is_void (Primitive prim) = false
is_void Void = true
is_void Null = false
is_void (Class name arguments) = false
is_void (Array member) = false
is_void (Variable name bound) = false
is_void Unknown = false

abbrev pub is_null : JavaType → Bool
is_null (Primitive prim) = false
is_null Void = false
is_null Null = true
is_null (Class name arguments) = false
is_null (Array member) = false
is_null (Variable name bound) = false
is_null Unknown = false

abbrev pub is_unknown : JavaType → Bool
is_unknown (Primitive prim) = false
is_unknown Void = false
is_unknown Null = false
is_unknown (Class name arguments) = false
is_unknown (Array member) = false
is_unknown (Variable name bound) = false
is_unknown Unknown = true

-- a primitive type, below a type
abbrev pub primitive_under : PrimitiveType → JavaType → Bool
primitive_under lower (Primitive upper) = is_primitive_under lower upper
primitive_under lower Void = false
primitive_under lower Null = false
primitive_under lower (Class name arguments) = false
primitive_under lower (Array member) = false
primitive_under lower (Variable name bound) = false
primitive_under lower Unknown = false

-- a class, below a type
abbrev pub class_under : Name → JavaType → Asking Bool
class_under lower (Primitive prim) = Return false
class_under lower Void = Return false
class_under lower Null = Return false
class_under lower (Class upper arguments) = is_class_under lower upper
class_under lower (Array member) = Return false
class_under lower (Variable name bound) = Return false
class_under lower Unknown = Return false

-- the same primitive type
abbrev pub is_primitive : PrimitiveType → JavaType → Bool
is_primitive prim (Primitive other) = is_same_primitive prim other
is_primitive prim Void = false
is_primitive prim Null = false
is_primitive prim (Class name arguments) = false
is_primitive prim (Array member) = false
is_primitive prim (Variable name bound) = false
is_primitive prim Unknown = false

-- An array, below a type, where it is known how the member is below a type: arrays of references are covariant, JLS 4.10.3.
abbrev pub array_under : (JavaType → Asking Bool) → JavaType → Asking Bool
array_under member_under (Primitive prim) = Return false
array_under member_under Void = Return false
array_under member_under Null = Return false
array_under member_under (Class upper arguments) = Return (is_above_arrays upper)
array_under member_under (Array member) = member_under member
array_under member_under (Variable name bound) = Return false
array_under member_under Unknown = Return false

-- What an array's member is below as a member: a primitive type below itself alone, and any other type as by itself.
abbrev pub as_member : JavaType → (JavaType → Asking Bool) → JavaType → Asking Bool
as_member (Primitive prim) under upper = Return (is_primitive prim upper)
as_member Void under upper = under upper
as_member Null under upper = under upper
as_member (Class name arguments) under upper = under upper
as_member (Array member) under upper = under upper
as_member (Variable name bound) under upper = under upper
as_member Unknown under upper = under upper

-- A type without type variables, below another one. `void` and the type that is not known are below themselves alone.
unfoldable pub erased_under : JavaType → JavaType → Asking Bool
erased_under (Primitive prim) upper = Return (primitive_under prim upper)
erased_under Void upper = Return (is_void upper)
erased_under Null upper = Return (is_null_under upper)
erased_under (Class name arguments) upper = class_under name upper
erased_under (Array member) upper = array_under (as_member member (erased_under member)) upper
erased_under (Variable name bound) upper = Return false
erased_under Unknown upper = Return (is_unknown upper)

-- A type is under another one where its erasure is under that one's.
abbrev pub is_under : JavaType → JavaType → Asking Bool
is_under lower upper = erased_under (erased lower) (erased upper)
