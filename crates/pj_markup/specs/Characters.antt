-- The sets of characters that the grammar names. A character is its code point.
use Rattle.std.specs.Prelude.{ℕ, Bool, ◌==◌, ◌-◌, ◌||◌, ◌&&◌, nat_le, Option, Some, None, if◌then◌else◌}

-- between two codes, both included
abbrev pub is_between : ℕ → ℕ → ℕ → Bool
is_between low high c = nat_le low c && nat_le c high

-- S: a space, a tab, a line feed or a carriage return
abbrev pub is_space : ℕ → Bool
is_space c = (c == 32) || (c == 9) || (c == 10) || (c == 13)

-- a name begins with a letter of ASCII, with _, with : or with a character past ASCII
abbrev pub starts_name : ℕ → Bool
starts_name c = is_between 65 90 c || is_between 97 122 c || (c == 95) || (c == 58) || nat_le 128 c

-- it goes on with these, with digits, with - and with .
abbrev pub continues_name : ℕ → Bool
continues_name c = starts_name c || is_between 48 57 c || (c == 45) || (c == 46)

-- " and '
abbrev pub is_quote : ℕ → Bool
is_quote c = (c == 34) || (c == 39)

-- the base of numbers, hexadecimal or decimal
abbrev pub base : Bool → ℕ
base hexadecimal = if hexadecimal then 16 else 10

-- the value of a digit
abbrev pub digit : Bool → ℕ → Option ℕ
digit hexadecimal c =
    if is_between 48 57 c then Some (c - 48)
    else (if hexadecimal && is_between 97 102 c then Some (c - 87)
    else (if hexadecimal && is_between 65 70 c then Some (c - 55) else None))

-- the last Unicode scalar value
abbrev pub greatest : ℕ
greatest = 1114111

-- a Unicode scalar value, no surrogate, above 0
abbrev pub is_scalar : ℕ → Bool
is_scalar n = nat_le 1 n && nat_le n greatest && (nat_le n 55295 || nat_le 57344 n)
