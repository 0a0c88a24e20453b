-- Boxing and unboxing (JLS 5.1.7, 5.1.8), and numeric contexts (JLS 5.6): a type is unboxed and then promoted.
use Rattle.std.specs.Prelude.{Bool, true, false, ◌&&◌, ◌||◌, Option, None, Some, is_some, List, [], ◌∷◌, codes, if◌then◌else◌, map}
use Rattle.pj_base.specs.WordTable.{value_in}
use Rattle.pj_names.specs.declared.ty.PrimitiveType.{PrimitiveType}
use Rattle.pj_names.specs.declared.ty.PrimitiveType.TheVariants.{Boolean, Byte, Short, Int, Long, Char, Float, Double}
use Rattle.pj_names.specs.ClassName.{Name}
use Rattle.pj_names.specs.JavaType.{JavaType, Primitive, Void, Null, Class, Array, Variable, Unknown, NoMore}
use Rattle.pj_types.specs.Subtyping.{is_same_primitive}

-- the class that boxing makes of a primitive type
abbrev pub boxed_name : PrimitiveType → Name
boxed_name Boolean = codes "java.lang.Boolean"
boxed_name Byte = codes "java.lang.Byte"
boxed_name Short = codes "java.lang.Short"
boxed_name Int = codes "java.lang.Integer"
boxed_name Long = codes "java.lang.Long"
boxed_name Char = codes "java.lang.Character"
boxed_name Float = codes "java.lang.Float"
boxed_name Double = codes "java.lang.Double"

abbrev pub boxed_type : PrimitiveType → JavaType
boxed_type prim = Class (boxed_name prim) NoMore

abbrev pub all_primitives : List PrimitiveType
all_primitives = Boolean ∷ (Byte ∷ (Short ∷ (Int ∷ (Long ∷ (Char ∷ (Float ∷ (Double ∷ [])))))))

-- the primitive type that unboxing makes of a class: that of which boxing makes the class
abbrev pub unboxed : Name → Option PrimitiveType
unboxed name = value_in (map (λ prim. (boxed_name prim, prim)) all_primitives) name

-- the type that stands for a type where an object is wanted: a primitive type is boxed, every other one stays
abbrev pub boxed : JavaType → JavaType
boxed (Primitive prim) = boxed_type prim
boxed Void = Void
boxed Null = Null
boxed (Class name arguments) = Class name arguments
boxed (Array member) = Array member
boxed (Variable name bound) = Variable name bound
boxed Unknown = Unknown

-- the primitive type that a type is, or that unboxing makes of it
abbrev pub as_primitive : JavaType → Option PrimitiveType
as_primitive (Primitive prim) = Some prim
as_primitive Void = None
as_primitive Null = None
as_primitive (Class name arguments) = unboxed name
as_primitive (Array member) = None
as_primitive (Variable name bound) = None
as_primitive Unknown = None

-- the numeric types (JLS 4.2)
abbrev pub is_numeric : PrimitiveType → Bool
is_numeric Boolean = false
is_numeric Byte = true
is_numeric Short = true
is_numeric Int = true
is_numeric Long = true
is_numeric Char = true
is_numeric Float = true
is_numeric Double = true

abbrev pub numeric_in : Option PrimitiveType → Option PrimitiveType
numeric_in None = None
numeric_in (Some prim) = if is_numeric prim then Some prim else None

-- the numeric type of a type that is convertible to one
abbrev pub numeric : JavaType → Option PrimitiveType
numeric ty = numeric_in (as_primitive ty)

-- unary numeric promotion: `byte`, `short` and `char` become `int`
abbrev pub widened : PrimitiveType → PrimitiveType
widened Byte = Int
widened Short = Int
widened Char = Int
widened Boolean = Boolean
widened Int = Int
widened Long = Long
widened Float = Float
widened Double = Double

abbrev pub promoted_in : Option PrimitiveType → JavaType
promoted_in None = Unknown
promoted_in (Some prim) = Primitive (widened prim)

-- what is not numeric has no promoted type that is known
abbrev pub promoted : JavaType → JavaType
promoted ty = promoted_in (numeric ty)

-- binary numeric promotion: `double` where one is `double`, else `float` where one is, else `long` where one is, and else `int`
abbrev pub is_either : PrimitiveType → PrimitiveType → PrimitiveType → Bool
is_either prim first second = is_same_primitive prim first || is_same_primitive prim second

abbrev pub wider : PrimitiveType → PrimitiveType → PrimitiveType
wider first second =
    if is_either Double first second then Double
    else if is_either Float first second then Float
    else if is_either Long first second then Long
    else Int

abbrev pub promoted_pair : Option PrimitiveType → Option PrimitiveType → JavaType
promoted_pair None second = Unknown
promoted_pair (Some first) None = Unknown
promoted_pair (Some first) (Some second) = Primitive (wider first second)

abbrev pub promoted_both : JavaType → JavaType → JavaType
promoted_both first second = promoted_pair (numeric first) (numeric second)

-- whether both are numeric
abbrev pub are_numeric : JavaType → JavaType → Bool
are_numeric first second = is_some (numeric first) && is_some (numeric second)
