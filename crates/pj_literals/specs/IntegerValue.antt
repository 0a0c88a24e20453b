-- JLS 3.10.1: the value of an integer literal.
use Rattle.std.specs.Prelude.{ℕ, ℤ, pos, ◌==◌, ◌||◌, Bool, if◌then◌else◌, List, [], ◌∷◌}
use Rattle.std.specs.List.{list_any}
use Rattle.std.specs.Int.{w32, w64, int_wrap}
use Rattle.pj_lex.specs.Characters.{holds, HexMark, BinaryMark, OctalDigit, IntegerSuffix}
use Rattle.pj_lex.specs.Numbers.{integer_literal}
use Rattle.pj_lex.specs.Pattern.{Matches}
use Rattle.pj_literals.specs.Digits.{number_in}

-- what JLS 3.10.1 calls an IntegerLiteral
abbrev pub IsInteger : List ℕ → Type 0
IsInteger w = Matches integer_literal w

-- the radix, by what stands behind a first 0: x makes it hexadecimal, b binary, and a digit or an underscore octal
abbrev pub radix_behind_zero : ℕ → ℕ
radix_behind_zero c = if holds HexMark c then 16 else (if holds BinaryMark c then 2 else (if holds OctalDigit c || (c == 95) then 8 else 10))

abbrev pub radix_of : List ℕ → ℕ
radix_of [] = 10
radix_of (c ∷ []) = 10
radix_of (c ∷ d ∷ cs) = if c == 48 then radix_behind_zero d else 10

-- the literal is of type long: its suffix is l or L, which stand nowhere else in it
abbrev pub is_long : List ℕ → Bool
is_long w = list_any (λ c. holds IntegerSuffix c) w

-- The value: a decimal literal is its number; one of another radix is the bits of an int or a long, of which the first is the sign. Bits beyond these are lost.
-- Underscores, the suffix and the marks 0x and 0b are no digits of the radix, and the 0 before a mark or an octal digit counts nothing.
abbrev pub integer_value : List ℕ → ℤ
integer_value w = if radix_of w == 10 then pos (number_in 10 w) else int_wrap (if is_long w then w64 else w32) (pos (number_in (radix_of w) w))
