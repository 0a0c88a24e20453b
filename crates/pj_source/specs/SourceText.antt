-- What is read of the bytes of a source file: the translated text and the places of its bytes, or why there is none.
use Rattle.std.specs.Prelude.{ℕ, ◌≡◌, ◌+◌, length, ◌==◌, ◌&&◌, not, Bool, true, false, if◌then◌else◌, Result, Ok, Err, List, [], ◌∷◌, ◌++◌}
use Rattle.std.specs.Str.{chars, IsUtf8, IsValidUpTo}
use Rattle.pj_tree.specs.Places.{first_place}
use Rattle.pj_tree.specs.declared.node.Place.{Place}
use Rattle.pj_source.specs.Escapes.{Piece, IsWritten, IsBadEscape, is_eligible, place_behind_all, text_of, places_of_bytes}
use Rattle.pj_source.specs.declared.source.fault.SourceFault.{SourceFault}
use Rattle.pj_source.specs.declared.source.fault.SourceFault.TheVariants.{NotUtf8, Escape}

pub record SourceText : Type 0 where
  -- the text in UTF-8, with the Unicode escapes translated
  pub text : List ℕ
  -- the place in the file as it is of each offset of the text in bytes, from 0 up to and including its length
  pub places : List Place

-- the text of the pieces, the last one first, which ends at a place
abbrev pub source_of : List Piece → Place → SourceText
source_of ps end = record { text = text_of ps; places = places_of_bytes ps ++ end ∷ [] }

-- a U+001A behind which nothing stands
abbrev pub is_last_sub : ℕ → List ℕ → Bool
is_last_sub c [] = c == 0x1A
is_last_sub c (_ ∷ _) = false

-- `Translates at ps text o`: the file's characters `text`, the first of which stands at a place, are left, and those before them gave the pieces; o comes of the file
pub data Translates : Place → List Piece → List ℕ → Result SourceText SourceFault → Type 0 where
  -- nothing is left: the text ends where the file does
  ended : (at : Place) (ps : List Piece) → Translates at ps [] (Ok (source_of ps at))
  -- the last character is U+001A (ASCII SUB), which is skipped, also where an escape writes it (JLS 3.5): the text ends where that stands
  sub : (at : Place) (ps : List Piece) (text : List ℕ) (c : ℕ) (escaped : Bool) (w rest : List ℕ) → IsWritten (is_eligible ps) text c escaped w rest → is_last_sub c rest ≡ true
      → Translates at ps text (Ok (source_of ps at))
  -- one character more
  next : (at : Place) (ps : List Piece) (text : List ℕ) (c : ℕ) (escaped : Bool) (w rest : List ℕ) (o : Result SourceText SourceFault)
      → IsWritten (is_eligible ps) text c escaped w rest → is_last_sub c rest ≡ false
      → Translates (place_behind_all at w rest) (record { character = c; escaped = escaped; place = at } ∷ ps) rest o → Translates at ps text o
  -- the first backslash and `u` that ought to begin an escape, and do not
  bad : (at : Place) (ps : List Piece) (text : List ℕ) → IsBadEscape (is_eligible ps) text → Translates at ps text (Err (Escape at))

-- the byte order mark at the front of a file
abbrev pub byte_order_mark : List ℕ → List ℕ
byte_order_mark [] = []
byte_order_mark (c ∷ cs) = if c == 0xFEFF then c ∷ [] else []

-- what stands behind it
abbrev pub behind_byte_order_mark : List ℕ → List ℕ
behind_byte_order_mark [] = []
behind_byte_order_mark (c ∷ cs) = if c == 0xFEFF then cs else c ∷ cs

-- what comes of the characters of a file: a byte order mark is skipped, and takes its column
abbrev pub TranslatesFile : List ℕ → Result SourceText SourceFault → Type 0
TranslatesFile file o = Translates (place_behind_all first_place (byte_order_mark file) (behind_byte_order_mark file)) [] (behind_byte_order_mark file) o

-- what comes of the bytes of a file, given that memory is not wanting; the offset of a byte that is not UTF-8 counts from 0
pub data IsRead : List ℕ → Result SourceText SourceFault → Type 0 where
  -- the bytes before the first one that is not UTF-8 are the longest front of the file that is UTF-8
  not_utf8 : (bytes : List ℕ) (n : ℕ) → IsValidUpTo bytes n → IsRead bytes (Err (NotUtf8 n))
  translated : (bytes : List ℕ) (o : Result SourceText SourceFault) → IsUtf8 bytes → TranslatesFile (chars bytes) o → IsRead bytes o

-- the text of a file is UTF-8, and has a place for each of its bytes and for its end
pub record IsPlaced (s : SourceText) : Type 0 where
  pub utf8 : IsUtf8 s.text
  pub count : length s.places ≡ length s.text + 1

-- ---- files that are their own translation

-- no backslash among the characters, and no U+001A at their end
abbrev pub is_as_written : List ℕ → Bool
is_as_written [] = true
is_as_written (c ∷ cs) = not (c == 92) && (not (is_last_sub c cs) && is_as_written cs)

-- and no byte order mark at their front: nothing of the file is skipped or translated
abbrev pub is_untouched : List ℕ → Bool
is_untouched [] = true
is_untouched (c ∷ cs) = not (c == 0xFEFF) && is_as_written (c ∷ cs)
