-- Modified UTF-8, JVMS 4.4.7: each unit of UTF-16 by itself, in its shortest form, but 0, which takes two bytes.
use Rattle.std.specs.Prelude.{◌≡◌, ◌+◌, ◌-◌, ◌*◌, ◌/◌, ◌%◌, ◌==◌, ◌&&◌, ◌||◌, ℕ, Bool, true, List, [], ◌∷◌, Option, Some, None, nat_le, nat_lt, flat_map, if◌then◌else◌}
use Rattle.std.specs.List.{list_all}
use Rattle.std.specs.Option.{option_map}
use Rattle.std.specs.Char.Escape.{encode_utf16}
use Rattle.std.specs.Char.Utf16.{has_unpaired_surrogate, utf16_lossy_chars}
use Rattle.std.specs.Str.{encode_utf8_all}

abbrev pub is_in : ℕ → ℕ → ℕ → Bool
is_in low high n = nat_le low n && nat_le n high

-- the bytes of a unit: one, two or three
abbrev pub unit_bytes : ℕ → List ℕ
unit_bytes u =
    if is_in 1 127 u then u ∷ []
    else if nat_lt u 2048 then (192 + u / 64) ∷ (128 + u % 64) ∷ []
    else (224 + u / 4096) ∷ (128 + u / 64 % 64) ∷ (128 + u % 64) ∷ []

-- a Unicode scalar value: no surrogate
abbrev pub is_scalar : ℕ → Bool
is_scalar c = nat_lt c 0xD800 || is_in 0xE000 0x10FFFF c

-- The bytes spell the text: its characters in UTF-16, each unit in its bytes.
pub record IsModified (bytes text : List ℕ) : Type 0 where
  pub characters : List ℕ
  pub scalars : list_all is_scalar characters ≡ true
  pub bytes_are : bytes ≡ flat_map unit_bytes (flat_map encode_utf16 characters)
  pub text_is : text ≡ encode_utf8_all characters

-- The units from the left.

abbrev pub is_one : ℕ → Bool
is_one a = is_in 1 127 a

abbrev pub is_more : ℕ → Bool
is_more b = is_in 128 191 b

abbrev pub two : ℕ → ℕ → ℕ
two a b = (a - 192) * 64 + (b - 128)

-- two bytes that are the shortest form of a unit
abbrev pub is_two : ℕ → ℕ → Bool
is_two a b = is_in 192 223 a && (is_more b && (two a b == 0 || nat_le 128 (two a b)))

abbrev pub three : ℕ → ℕ → ℕ → ℕ
three a b c = (a - 224) * 4096 + (b - 128) * 64 + (c - 128)

abbrev pub is_three : ℕ → ℕ → ℕ → Bool
is_three a b c = is_in 224 239 a && (is_more b && (is_more c && nat_le 2048 (three a b c)))

-- the unit at the front of bytes, and what stands behind it
unfoldable pub unit_at : List ℕ → Option (ℕ × List ℕ)
unit_at [] = None
unit_at (a ∷ []) = if is_one a then Some (a, []) else None
unit_at (a ∷ b ∷ []) = if is_one a then Some (a, b ∷ []) else if is_two a b then Some (two a b, []) else None
unit_at (a ∷ b ∷ c ∷ rest) =
    if is_one a then Some (a, b ∷ c ∷ rest)
    else if is_two a b then Some (two a b, c ∷ rest)
    else if is_three a b c then Some (three a b c, rest)
    else None

abbrev pub in_front : ℕ → Option (List ℕ) → Option (List ℕ)
in_front u units = option_map (λ us. u ∷ us) units

-- the units that bytes spell, if they spell units
unfoldable pub units_of : List ℕ → Option (List ℕ)
units_of [] = Some []
units_of (a ∷ []) = if is_one a then Some (a ∷ []) else None
units_of (a ∷ b ∷ []) =
    if is_one a then in_front a (units_of (b ∷ []))
    else if is_two a b then Some (two a b ∷ [])
    else None
units_of (a ∷ b ∷ c ∷ rest) =
    if is_one a then in_front a (units_of (b ∷ c ∷ rest))
    else if is_two a b then in_front (two a b) (units_of (c ∷ rest))
    else if is_three a b c then in_front (three a b c) (units_of rest)
    else None

-- the text of units, in UTF-8; none where a surrogate is not one of a pair
unfoldable pub text_of_units : List ℕ → Option (List ℕ)
text_of_units units = if has_unpaired_surrogate units then None else Some (encode_utf8_all (utf16_lossy_chars units))

abbrev pub text_of_some : Option (List ℕ) → Option (List ℕ)
text_of_some None = None
text_of_some (Some units) = text_of_units units

-- the text that bytes spell, if they spell one
unfoldable pub decoded : List ℕ → Option (List ℕ)
decoded bytes = text_of_some (units_of bytes)
