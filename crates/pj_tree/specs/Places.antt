-- Lines and columns of a text.
-- Lines end by a line feed, a carriage return, or a carriage return with a line feed behind it, which is one end (JLS 3.4).
-- Lines and columns count from 1. A column is a character, and a tab is one column.
use Rattle.std.specs.Prelude.{ℕ, ◌≡◌, ◌+◌, ◌<◌, ◌==◌, nat_lt, Some, length, slice_get, slice_index_or, ◌&&◌, ◌||◌, not, Bool, if◌then◌else◌, List, [], ◌∷◌, ◌++◌, replicate}
use Rattle.std.specs.Char.{len_utf8}
use Rattle.std.specs.Str.{chars}
use Rattle.pj_base.specs.Front.{starts_with}
use Rattle.pj_tree.specs.declared.node.Place.{Place}

-- whether the character c ends a line, where `rest` follows it; of a carriage return and a line feed only the second does, so that both stand on the line that they end
abbrev pub ends_line : ℕ → List ℕ → Bool
ends_line c rest = c == 10 || (c == 13 && not (starts_with 10 rest))

-- the place behind the character c at a place, where `rest` follows it
abbrev pub place_behind : Place → ℕ → List ℕ → Place
place_behind at c rest =
    if ends_line c rest then record { line = at.line + 1; column = 1 }
    else record { line = at.line; column = at.column + 1 }

-- the places of the bytes of these characters, the first of which stands at the given place, and of the end behind them; each byte of a character has the character's place
abbrev pub places_from : Place → List ℕ → List Place
places_from at [] = at ∷ []
places_from at (c ∷ cs) = replicate (len_utf8 c) at ++ places_from (place_behind at c cs) cs

-- where a text begins
abbrev pub first_place : Place
first_place = record { line = 1; column = 1 }

-- the place of each offset of a text in UTF-8, from 0 up to and including its length
unfoldable pub places_of : List ℕ → List Place
places_of text = places_from first_place (chars text)

-- the place of an offset that is at most the length of the text
abbrev pub place_at : List ℕ → ℕ → Place
place_at text offset = slice_index_or (places_of text) offset first_place

-- ---- the same, counted

-- how many bytes the characters take
abbrev pub size : List ℕ → ℕ
size [] = 0
size (c ∷ cs) = len_utf8 c + size cs

-- how many of the characters `before` end a line, where `rest` follows them
abbrev pub line_ends : List ℕ → List ℕ → ℕ
line_ends [] rest = 0
line_ends (c ∷ cs) rest = (if ends_line c (cs ++ rest) then 1 else 0) + line_ends cs rest

-- how many of them stand behind the last one that ends a line: neither one of these nor a later one ends a line
abbrev pub on_line : List ℕ → List ℕ → ℕ
on_line [] rest = 0
on_line (c ∷ cs) rest = if ends_line c (cs ++ rest) || nat_lt 0 (line_ends cs rest) then on_line cs rest else 1 + on_line cs rest

-- the place behind the characters `before`, where `rest` follows them
abbrev pub place_past : List ℕ → List ℕ → Place
place_past before rest = record { line = 1 + line_ends before rest; column = 1 + on_line before rest }

-- the places are those of the text: each byte of a character stands behind the characters before that one, and the end behind them all
pub record ArePlacesOf (text : List ℕ) (places : List Place) : Type 0 where
  pub len : length places ≡ length text + 1
  pub inside : (before rest : List ℕ) (c k : ℕ) → chars text ≡ before ++ c ∷ rest → k < len_utf8 c → slice_get places (size before + k) ≡ Some (place_past before (c ∷ rest))
  pub end : slice_get places (length text) ≡ Some (place_past (chars text) [])
