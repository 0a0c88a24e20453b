-- The types of literals by how they are spelled (JLS 3.10, 15.8.1, 15.8.2). A spelling is a list of bytes, of which those that count are ASCII.
use Rattle.std.specs.Prelude.{ℕ, ◌==◌, Bool, false, ◌||◌, Option, None, Some, if◌then◌else◌, List, [], ◌∷◌, codes}
use Rattle.std.specs.List.{list_any}
use Rattle.pj_names.specs.declared.ty.PrimitiveType.{PrimitiveType}
use Rattle.pj_names.specs.declared.ty.PrimitiveType.TheVariants as p
use Rattle.pj_names.specs.JavaType.{JavaType, Primitive, Void, Null, Class, Array, Variable, Unknown, NoMore, Argument}
use Rattle.pj_types.specs.Conversions.{boxed_type}

-- ---- numbers (JLS 3.10.1, 3.10.2)

-- whether a byte is one of two
abbrev pub either : ℕ → ℕ → ℕ → Bool
either small large c = c == small || c == large

-- what stands behind a first `0`
abbrev pub mark_of : List ℕ → Option ℕ
mark_of [] = None
mark_of (c ∷ []) = None
mark_of (c ∷ d ∷ cs) = if c == 48 then Some d else None

-- x or X
abbrev pub is_hexadecimal_mark : Option ℕ → Bool
is_hexadecimal_mark None = false
is_hexadecimal_mark (Some d) = either 120 88 d

abbrev pub is_hexadecimal : List ℕ → Bool
is_hexadecimal text = is_hexadecimal_mark (mark_of text)

-- a point, an exponent by e or E, a suffix f, F, d or D
abbrev pub is_decimal_sign : ℕ → Bool
is_decimal_sign c = c == 46 || either 101 69 c || either 102 70 c || either 100 68 c

-- A hexadecimal floating point number has an exponent by p or P, which no integer has; any other has one of these signs.
abbrev pub is_floating : List ℕ → Bool
is_floating text = if is_hexadecimal text then list_any (either 112 80) text else list_any is_decimal_sign text

-- whether the last byte is one of two
abbrev pub ends_in : (ℕ → Bool) → List ℕ → Bool
ends_in test [] = false
ends_in test (c ∷ []) = test c
ends_in test (c ∷ d ∷ cs) = ends_in test (d ∷ cs)

-- The type of a text that is a numeric literal; of other texts nothing is meant. A floating point number is a `float` with a suffix f or F, and else a `double`; an integer is a `long` with a suffix l or L, and else an `int`.
abbrev pub number_type : List ℕ → PrimitiveType
number_type text =
    if is_floating text
    then (if ends_in (either 102 70) text then p.Float else p.Double)
    else (if ends_in (either 108 76) text then p.Long else p.Int)

-- ---- strings and text blocks (JLS 3.10.5, 3.10.6)

abbrev pub string_type : JavaType
string_type = Class (codes "java.lang.String") NoMore

-- ---- class literals (JLS 15.8.2)

-- the type argument of the literal of a type: a primitive type is boxed (JLS 5.1.7), and `void` is `java.lang.Void`
abbrev pub class_argument : JavaType → JavaType
class_argument (Primitive prim) = boxed_type prim
class_argument Void = Class (codes "java.lang.Void") NoMore
class_argument Null = Null
class_argument (Class name arguments) = Class name arguments
class_argument (Array member) = Array member
class_argument (Variable name bound) = Variable name bound
class_argument Unknown = Unknown

abbrev pub class_literal : JavaType → JavaType
class_literal ty = Class (codes "java.lang.Class") (Argument (class_argument ty) NoMore)
