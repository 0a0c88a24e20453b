-- The names by which rules speak of types.
use Rattle.std.specs.Prelude.{ℕ, Bool, false, ◌==◌, ◌++◌, List, [], ◌∷◌, map, codes, nat_eq, if◌then◌else◌}
use Rattle.std.specs.List.{list_any}
use Rattle.std.specs.Cmp.Lexicographic.{pointwise}
use Rattle.pj_names.specs.declared.ty.PrimitiveType.{PrimitiveType}
use Rattle.pj_names.specs.declared.ty.PrimitiveType.TheVariants.{Boolean, Byte, Short, Int, Long, Char, Float, Double}
use Rattle.pj_names.specs.ClassName.{Name}
use Rattle.pj_names.specs.JavaType.{JavaType, Primitive, Void, Null, Class, Array, Variable, Unknown}

-- the word of a primitive type, JLS 4.2
abbrev pub word_of : PrimitiveType → List ℕ
word_of Boolean = codes "boolean"
word_of Byte = codes "byte"
word_of Short = codes "short"
word_of Int = codes "int"
word_of Long = codes "long"
word_of Char = codes "char"
word_of Float = codes "float"
word_of Double = codes "double"

-- a dot, 46, in place of `$`, 36
abbrev pub with_dot : ℕ → ℕ
with_dot b = if b == 36 then 46 else b

-- The canonical name of a class, JLS 6.7, from its binary name, JLS 13.1: dots in place of each `$`.
abbrev pub canonical : Name → List ℕ
canonical name = map with_dot name

-- The names of a type. A class has its binary name and its canonical one, a primitive type its word, an array the names of its component
-- type, each with a pair of brackets behind. A type variable has those of its erasure, JLS 4.6. Other types have no name.
abbrev pub names_of : JavaType → List (List ℕ)
names_of (Primitive prim) = word_of prim ∷ []
names_of Void = []
names_of Null = []
names_of (Class name arguments) = name ∷ canonical name ∷ []
names_of (Array component) = map (λ name. name ++ codes "[]") (names_of component)
names_of (Variable name bound) = names_of bound
names_of Unknown = []

-- whether a text is one of the names of a type
abbrev pub has_name : List ℕ → JavaType → Bool
has_name text ty = list_any (λ name. pointwise nat_eq name text) (names_of ty)

-- whether a type is a class of which a text is one of the names
abbrev pub is_class_called : List ℕ → JavaType → Bool
is_class_called text (Primitive prim) = false
is_class_called text Void = false
is_class_called text Null = false
is_class_called text (Class name arguments) = has_name text (Class name arguments)
is_class_called text (Array component) = false
is_class_called text (Variable name bound) = false
is_class_called text Unknown = false
