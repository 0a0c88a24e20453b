-- The number that digits spell.
use Rattle.std.specs.Prelude.{ℕ, ◌+◌, ◌*◌, ◌^◌, List, [], ◌∷◌, length, filter}
use Rattle.std.specs.Char.{digit_value, is_digit}

-- the number that digits spell in a radix: each counts by its place, the last one by 1, the one before it by the radix, and so on
abbrev pub number : ℕ → List ℕ → ℕ
number radix [] = 0
number radix (c ∷ cs) = digit_value c * radix ^ length cs + number radix cs

-- the digits of a radix in a word, in their order: 0 to 9, then a to f, large or small
abbrev pub digits_in : ℕ → List ℕ → List ℕ
digits_in radix w = filter (λ c. is_digit c radix) w

-- the number that the digits of a radix in a word spell
abbrev pub number_in : ℕ → List ℕ → ℕ
number_in radix w = number radix (digits_in radix w)
