-- A source's text and places said of the whole file at once, with no walk over it: the file is a byte order mark or nothing, then what writes each character of the text, in order,
-- then what writes a U+001A that is skipped, or nothing; and each character stands behind the characters of the file before those that write it.
use Rattle.std.specs.Prelude.{ℕ, true, ◌≡◌, ◌+◌, ◌<◌, Some, length, slice_get, List, [], ◌∷◌, ◌++◌}
use Rattle.std.specs.Char.{len_utf8}
use Rattle.std.specs.Str.{encode_utf8_all}
use Rattle.pj_tree.specs.Places.{place_past, size}
use Rattle.pj_tree.specs.declared.node.Place.{Place}
use Rattle.pj_source.specs.Escapes.{BeginsWithNoEscape, begins_escape}
use Rattle.pj_source.specs.SourceText.{SourceText, byte_order_mark}

-- a character of the text, and the characters of the file that write it
pub record Writing : Type 0 where
  pub character : ℕ
  pub written : List ℕ

abbrev pub written_of : List Writing → List ℕ
written_of [] = []
written_of (x ∷ xs) = x.written ++ written_of xs

abbrev pub characters_of : List Writing → List ℕ
characters_of [] = []
characters_of (x ∷ xs) = x.character ∷ characters_of xs

-- of the characters of a file and what is read of it; places are counted by the line ends and characters of the file before
pub record IsWrittenOut (file : List ℕ) (s : SourceText) : Type 0 where
  pub xs : List Writing
  pub last : List ℕ
  pub whole : file ≡ byte_order_mark file ++ (written_of xs ++ last)
  pub text : s.text ≡ encode_utf8_all (characters_of xs)
  -- each byte of a character
  pub inside : (before after : List Writing) (x : Writing) (k : ℕ) → xs ≡ before ++ x ∷ after → k < len_utf8 x.character
      → slice_get s.places (size (characters_of before) + k) ≡ Some (place_past (byte_order_mark file ++ written_of before) (x.written ++ (written_of after ++ last)))
  pub end : slice_get s.places (length s.text) ≡ Some (place_past (byte_order_mark file ++ written_of xs) last)

-- of the characters of a file and the place of its first bad escape: a backslash and a `u` that begin no escape stand behind what writes some characters
pub record StopsAt (file : List ℕ) (at : Place) : Type 0 where
  pub xs : List Writing
  pub rest : List ℕ
  pub whole : file ≡ byte_order_mark file ++ (written_of xs ++ rest)
  pub begins : begins_escape rest ≡ true
  pub none : BeginsWithNoEscape rest
  pub place : at ≡ place_past (byte_order_mark file ++ written_of xs) rest
