-- The values of literals (XPath 2.0, 3.1.1).
use Rattle.std.specs.Prelude.{ℕ, ◌+◌, ◌-◌, ◌*◌, ◌^◌, ◌==◌, ◌&&◌, nat_lt, ℤ, pos, Bool, false, not, List, [], ◌∷◌, ◌++◌, Option, Some, None, if◌then◌else◌}
use Rattle.std.specs.Str.{chars, encode_utf8_all}

-- the number of the digits behind those that have this value; 48 is the code of 0
abbrev pub number_from : ℕ → List ℕ → ℕ
number_from before [] = before
number_from before (digit ∷ digits) = number_from (before * 10 + (digit - 48)) digits

abbrev pub if_it_fits : ℕ → Option ℤ
if_it_fits n = if nat_lt n (2 ^ 63) then Some (pos n) else None

-- the value of digits, where it is an integer of 64 bits
unfoldable pub integer_of : List ℕ → Option ℤ
integer_of digits = if_it_fits (number_from 0 digits)

-- The characters behind the mark at the beginning, without the one at the end: two marks that follow each other stand for one. So
-- each mark is left out but the second of two; `half` says that the last character was left out.
abbrev pub is_left_out : ℕ → Bool → ℕ → Bool
is_left_out mark half c = (c == mark) && not half

-- the character, if it is not left out
abbrev pub kept : Bool → ℕ → List ℕ
kept left_out c = if left_out then [] else c ∷ []

abbrev pub unquoted : ℕ → Bool → List ℕ → List ℕ
unquoted mark half [] = []
unquoted mark half (c ∷ cs) = kept (is_left_out mark half c) c ++ unquoted mark (is_left_out mark half c) cs

abbrev pub characters_of : List ℕ → List ℕ
characters_of [] = []
characters_of (mark ∷ cs) = unquoted mark false cs

-- the string that a literal stands for; both are bytes in UTF-8
abbrev pub string_of : List ℕ → List ℕ
string_of literal = encode_utf8_all (characters_of (chars literal))
