-- Unicode escapes (JLS 3.3): how the characters of the translated text are written in a file, and where each stands there.
-- A text is a list of characters. An escape is a backslash, one `u` or more, and four hexadecimal digits.
--
-- A backslash is eligible to begin an escape
-- * where the character before it in the translated text came from an escape, whichever character that is;
-- * otherwise, where an even number of backslashes stands directly before it in the translated text, back to a character that is none or to the start (none at all is an even number).
--   These count alike whether they were written as backslashes or as escapes.
-- So in `\\u0041` the second backslash begins no escape, `\u005c\u0041` is a backslash and an A, and `\u005cu0041` is a backslash and five characters
-- (what an escape gives never begins another). In `\u005c\\u0041` the middle backslash is eligible, but no `u` follows it; the last one has two backslashes before it, and begins an escape.
use Rattle.std.specs.Prelude.{ℕ, zero, suc, ◌≡◌, ◌+◌, ◌*◌, ◌<◌, ◌==◌, ◌&&◌, ◌||◌, not, Bool, true, false, if◌then◌else◌, List, [], ◌∷◌, ◌++◌, replicate}
use Rattle.std.specs.Char.{digit_value, encode_utf8, len_utf8}
use Rattle.std.specs.Char.Utf16.{is_high_surrogate, is_low_surrogate, surrogate_pair_char}
use Rattle.pj_base.specs.Front.{starts_with}
use Rattle.pj_tree.specs.Places.{place_behind}
use Rattle.pj_tree.specs.declared.node.Place.{Place}

-- ---- one escape

-- four hexadecimal digits and the number that they write; `digit_value` is the value of a digit or a letter as a digit, and 36 of other characters
pub record AreDigits (digits : List ℕ) (value : ℕ) : Type 0 where
  pub a : ℕ
  pub b : ℕ
  pub c : ℕ
  pub d : ℕ
  pub are : digits ≡ a ∷ b ∷ c ∷ d ∷ []
  pub hex_a : digit_value a < 16
  pub hex_b : digit_value b < 16
  pub hex_c : digit_value c < 16
  pub hex_d : digit_value d < 16
  pub value_is : value ≡ ((digit_value a * 16 + digit_value b) * 16 + digit_value c) * 16 + digit_value d

-- the text w is an escape for the unit of UTF-16: a backslash, a `u`, maybe more of them, and the digits
pub record IsEscape (w : List ℕ) (unit : ℕ) : Type 0 where
  pub more : ℕ
  pub digits : List ℕ
  pub spelled : w ≡ 92 ∷ 117 ∷ (replicate more 117 ++ digits)
  pub number : AreDigits digits unit

-- no escape stands at the front of the text
abbrev pub BeginsWithNoEscape : List ℕ → Type 0
BeginsWithNoEscape text = (w rest : List ℕ) (unit : ℕ) → text ≡ w ++ rest → IsEscape w unit → ⊥

-- an escape for the second unit of a surrogate pair stands at the front of the text
abbrev pub BeginsWithLow : List ℕ → Type 0
BeginsWithLow text = (w : List ℕ) × ((rest : List ℕ) × ((low : ℕ) × ((text ≡ w ++ rest) × IsEscape w low × (is_low_surrogate low ≡ true))))

-- ---- one character of the translated text

-- the character of a unit by itself: the unit, and U+FFFD for a surrogate
abbrev pub character_alone : ℕ → ℕ
character_alone unit = if is_high_surrogate unit || is_low_surrogate unit then 0xFFFD else unit

-- a backslash and a `u` at the front of the text
abbrev pub begins_escape : List ℕ → Bool
begins_escape [] = false
begins_escape (c ∷ cs) = c == 92 && starts_with 117 cs

-- `IsWritten eligible text c escaped w rest`: the text is w and then the rest, and w writes the character c: as itself, or escaped.
-- `eligible` says whether a backslash at the front may begin an escape.
pub data IsWritten : Bool → List ℕ → ℕ → Bool → List ℕ → List ℕ → Type 0 where
  -- a character as it is; also a backslash that is not eligible, or that no `u` follows
  plain : (eligible : Bool) (c : ℕ) (rest : List ℕ) → (eligible && begins_escape (c ∷ rest)) ≡ false → IsWritten eligible (c ∷ rest) c false (c ∷ []) rest
  -- an escape, of a unit that is no first one of a surrogate pair with its second one behind it; a first unit with a second one behind it is a pair, so that second one never stands at a front
  alone : (text w rest : List ℕ) (unit : ℕ) → text ≡ w ++ rest → IsEscape w unit → (is_high_surrogate unit ≡ true → ¬ (BeginsWithLow rest)) → IsWritten true text (character_alone unit) true w rest
  -- two adjacent escapes for the two units of a surrogate pair, which are one character
  pair : (text v w rest : List ℕ) (high low : ℕ) → text ≡ v ++ (w ++ rest) → IsEscape v high → IsEscape w low → is_high_surrogate high ≡ true → is_low_surrogate low ≡ true
      → IsWritten true text (surrogate_pair_char high low) true (v ++ w) rest

-- an eligible backslash with a `u` behind it at the front of the text, which do not begin an escape
pub record IsBadEscape (eligible : Bool) (text : List ℕ) : Type 0 where
  pub allowed : eligible ≡ true
  pub begins : begins_escape text ≡ true
  pub none : BeginsWithNoEscape text

-- ---- what came before

-- a character of the translated text, whether an escape wrote it, and the place in the file of the first character that writes it
pub record Piece : Type 0 where
  pub character : ℕ
  pub escaped : Bool
  pub place : Place

-- how many backslashes stand at the end of the translated text, whose pieces are given, the last one first
abbrev pub backslashes : List Piece → ℕ
backslashes [] = zero
backslashes (p ∷ ps) = if p.character == 92 then suc (backslashes ps) else zero

abbrev pub is_even : ℕ → Bool
is_even zero = true
is_even (suc n) = not (is_even n)

abbrev pub last_is_escaped : List Piece → Bool
last_is_escaped [] = false
last_is_escaped (p ∷ ps) = p.escaped

-- whether a backslash behind the pieces may begin an escape
abbrev pub is_eligible : List Piece → Bool
is_eligible ps = last_is_escaped ps || is_even (backslashes ps)

-- ---- places

-- the place behind the characters w, the first of which stands at the given place, where `rest` follows them
abbrev pub place_behind_all : Place → List ℕ → List ℕ → Place
place_behind_all at [] rest = at
place_behind_all at (c ∷ cs) rest = place_behind_all (place_behind at c (cs ++ rest)) cs rest

-- the translated text in UTF-8, of its pieces, the last one first
abbrev pub text_of : List Piece → List ℕ
text_of [] = []
text_of (p ∷ ps) = text_of ps ++ encode_utf8 p.character

-- the places of its bytes; each byte of a character has the character's place
abbrev pub places_of_bytes : List Piece → List Place
places_of_bytes [] = []
places_of_bytes (p ∷ ps) = places_of_bytes ps ++ replicate (len_utf8 p.character) p.place
