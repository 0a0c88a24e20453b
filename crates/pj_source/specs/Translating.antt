-- What the code's own calls say while a file is translated. No public clause names it.
use Rattle.std.specs.Prelude.{ℕ, ◌≡◌, ◌+◌, ◌<◌, ◌≤◌, Bool, Result, Ok, List, [], ◌∷◌, ◌++◌, length, string_bytes, string_len}
use Rattle.std.specs.Char.{digit_value}
use Rattle.pj_tree.specs.declared.node.Place.{Place}
use Rattle.pj_source.specs.Escapes.{AreDigits, IsWritten, Piece, backslashes, is_even, last_is_escaped, text_of, places_of_bytes}
use Rattle.pj_source.specs.SourceText.{SourceText, Translates, source_of}
use Rattle.pj_source.specs.SourceRuns.{AreRuns, each_below, place_by}
use Rattle.pj_source.specs.declared.source.fault.SourceFault.{SourceFault}
use Rattle.pj_source.specs.declared.source.translation.Translation.{Translation}

-- no hexadecimal digit stands at the front
abbrev pub BeginsWithNoDigit : List ℕ → Type 0
BeginsWithNoDigit text = (c : ℕ) (rest : List ℕ) → text ≡ c ∷ rest → digit_value c < 16 → ⊥

-- no four hexadecimal digits stand at the front
abbrev pub BeginsWithNoDigits : List ℕ → Type 0
BeginsWithNoDigits text = (w rest : List ℕ) (value : ℕ) → text ≡ w ++ rest → AreDigits w value → ⊥

-- so many characters at the front write the character c
pub record IsFront (eligible : Bool) (text : List ℕ) (c : ℕ) (escaped : Bool) (len : ℕ) (rest : List ℕ) : Type 0 where
  pub w : List ℕ
  pub written : IsWritten eligible text c escaped w rest
  pub len_is : len ≡ length w

-- the translation is that of the pieces, the last one first, and so many bytes of the file are left
pub record HasMade (t : Translation) (pieces : List Piece) (left : ℕ) : Type 0 where
  pub text : string_bytes t.text ≡ text_of pieces
  pub escaped : t.escaped ≡ last_is_escaped pieces
  pub even : t.even ≡ is_even (backslashes pieces)
  pub runs : AreRuns t.runs.items (string_len t.text) left
  pub places : places_of_bytes pieces ≡ each_below (place_by t.runs.items) (string_len t.text)
  pub column : t.place.column + left ≤ 4294967295
  pub line : t.place.line + left ≤ 4294967295
  pub size : string_len t.text + left ≤ 4294967294

-- there is room for a character more, which so many characters of the file write
pub record CanTake (t : Translation) (len : ℕ) : Type 0 where
  pub runs : AreRuns t.runs.items (string_len t.text) 0
  pub size : string_len t.text ≤ 4294967294
  pub column : t.place.column + len ≤ 4294967295
  pub line : t.place.line < 4294967295
  pub some : 0 < len

-- the characters `text` of a file, the first of which stands at a place, give what the translation has made
pub record IsTranslated (at : Place) (text : List ℕ) (t : Translation) : Type 0 where
  pub pieces : List Piece
  pub left : ℕ
  pub translates : Translates at [] text (Ok (source_of pieces t.place))
  pub made : HasMade t pieces left

-- of the walk over them: what comes of the rest comes of them all
pub record GoesOn (at : Place) (text : List ℕ) (t : Translation) (rest : List ℕ) (left : ℕ) : Type 0 where
  pub pieces : List Piece
  pub on : (o : Result SourceText SourceFault) → Translates t.place pieces rest o → Translates at [] text o
  pub made : HasMade t pieces left
