-- What literals tell by how they are written. Each is a list of bytes, of which those that count are ASCII.
use Rattle.std.specs.Prelude.{ℕ, ◌^◌, ℤ, pos, negsuc, ◌==◌, nat_lt, nat_le, Bool, false, not, ◌&&◌, ◌||◌, Option, None, Some, if◌then◌else◌, List, [], ◌∷◌}
use Rattle.std.specs.List.{list_any}
use Rattle.std.specs.Str.{chars}
use Rattle.pj_literals.specs.IntegerValue.{integer_value}

-- ---- numbers (JLS 3.10.1, 3.10.2)

-- whether a byte is one of two
abbrev pub either : ℕ → ℕ → ℕ → Bool
either small large c = c == small || c == large

-- what stands behind a first `0`
abbrev pub mark_of : List ℕ → Option ℕ
mark_of [] = None
mark_of (c ∷ []) = None
mark_of (c ∷ d ∷ cs) = if c == 48 then Some d else None

-- x or X
abbrev pub is_hexadecimal_mark : Option ℕ → Bool
is_hexadecimal_mark None = false
is_hexadecimal_mark (Some d) = either 120 88 d

abbrev pub is_hexadecimal : List ℕ → Bool
is_hexadecimal text = is_hexadecimal_mark (mark_of text)

-- a point, an exponent by e or E, a suffix f, F, d or D
abbrev pub is_decimal_sign : ℕ → Bool
is_decimal_sign c = c == 46 || either 101 69 c || either 102 70 c || either 100 68 c

-- A hexadecimal floating point number has an exponent by p or P, which no integer has; any other has one of these signs.
abbrev pub is_floating : List ℕ → Bool
is_floating text = if is_hexadecimal text then list_any (either 112 80) text else list_any is_decimal_sign text

-- the last byte is one of two
abbrev pub ends_in : (ℕ → Bool) → List ℕ → Bool
ends_in p [] = false
ends_in p (c ∷ []) = p c
ends_in p (c ∷ d ∷ cs) = ends_in p (d ∷ cs)

-- with a suffix l or L
abbrev pub is_int_literal : List ℕ → Bool
is_int_literal text = not (is_floating text) && not (ends_in (either 108 76) text)

abbrev pub is_long_literal : List ℕ → Bool
is_long_literal text = not (is_floating text) && ends_in (either 108 76) text

-- with a suffix f or F
abbrev pub is_float_literal : List ℕ → Bool
is_float_literal text = is_floating text && ends_in (either 102 70) text

abbrev pub is_double_literal : List ℕ → Bool
is_double_literal text = is_floating text && not (ends_in (either 102 70) text)

-- behind a first `0`: x or X is hexadecimal, b or B binary, and a digit or an underscore octal, but in a floating point number
abbrev pub radix_behind : Bool → ℕ → ℕ
radix_behind floating d =
    if either 120 88 d then 16
    else if either 98 66 d then 2
    else if ((nat_le 48 d && nat_le d 57) || d == 95) && not floating then 8
    else 10

abbrev pub radix_by : Bool → Option ℕ → ℕ
radix_by floating None = 10
radix_by floating (Some d) = radix_behind floating d

abbrev pub radix_of : List ℕ → ℕ
radix_of text = radix_by (is_floating text) (mark_of text)

-- whether an integer fits 64 bits with a sign
abbrev pub fits_64 : ℤ → Bool
fits_64 (pos n) = nat_lt n (2 ^ 63)
fits_64 (negsuc n) = nat_lt n (2 ^ 63)

abbrev pub if_fitting : ℤ → Option ℤ
if_fitting z = if fits_64 z then Some z else None

-- absent of a floating point number, and of an integer past 64 bits
abbrev pub constant_integer : List ℕ → Option ℤ
constant_integer text = if is_floating text then None else if_fitting (integer_value (chars text))

-- ---- text blocks (JLS 3.10.6)

-- it begins with three quotes
abbrev pub is_text_block : List ℕ → Bool
is_text_block [] = false
is_text_block (a ∷ []) = false
is_text_block (a ∷ b ∷ []) = false
is_text_block (a ∷ b ∷ c ∷ cs) = a == 34 && b == 34 && c == 34
