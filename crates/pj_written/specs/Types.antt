-- Types that need no look-up (JLS 4.2, 4.5.1, 10.1).
use Rattle.std.specs.Prelude.{ℕ, zero, suc, if◌then◌else◌, List, [], ◌∷◌, codes}
use Rattle.pj_names.specs.declared.ty.PrimitiveType.TheVariants as p
use Rattle.pj_names.specs.ClassName.{is_class_name}
use Rattle.pj_names.specs.JavaType.{JavaType, Primitive, Class, Array, Unknown, NoMore}
use Rattle.pj_written.specs.Words.{same_text}

-- `java.lang.Object`, which stands in the place of a bound that is not written
abbrev pub object_type : JavaType
object_type = Class (codes "java.lang.Object") NoMore

-- ---- primitive types (JLS 4.2)

abbrev pub primitive_word : List ℕ → JavaType
primitive_word word =
    if same_text word (codes "boolean") then Primitive p.Boolean
    else if same_text word (codes "byte") then Primitive p.Byte
    else if same_text word (codes "short") then Primitive p.Short
    else if same_text word (codes "int") then Primitive p.Int
    else if same_text word (codes "long") then Primitive p.Long
    else if same_text word (codes "char") then Primitive p.Char
    else if same_text word (codes "float") then Primitive p.Float
    else if same_text word (codes "double") then Primitive p.Double
    else Unknown

-- that of the first word
abbrev pub primitive_of : List (List ℕ) → JavaType
primitive_of [] = Unknown
primitive_of (word ∷ words) = primitive_word word

-- ---- classes, arrays and arguments

-- The class of a text: a text that is no name of a class is not known. No tree of a Java text has such a name, but a tree is any list of nodes here.
abbrev pub class_of_text : List ℕ → JavaType
class_of_text text = if is_class_name text then Class text NoMore else Unknown

-- so many dimensions (JLS 10.1)
abbrev pub arrays : ℕ → JavaType → JavaType
arrays zero ty = ty
arrays (suc dimensions) ty = Array (arrays dimensions ty)

-- a primitive type is no type argument (JLS 4.5.1)
abbrev pub as_argument : JavaType → JavaType
as_argument (Primitive prim) = Unknown
as_argument ty = ty
