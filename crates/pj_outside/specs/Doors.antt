-- Class files in folders.
use Rattle.std.specs.Prelude.{◌≡◌, ◌+◌, ◌-◌, ◌^◌, ◌==◌, ℕ, min, List, [], ◌∷◌, ◌++◌, codes, map, filter, if◌then◌else◌, Option, None}
use Rattle.std.specs.Bool.{MatchBool}
use Rattle.std.specs.Option.{option_or}
use Rattle.pj_outside.specs.declared.refused.Reading.{Reading}
use Rattle.pj_outside.specs.Faults.{Rises}
use Rattle.pj_outside.specs.Files.{Bytes, Files, is_same, bytes_at, reading_of}

-- pairs of a folder's name and its files
abbrev pub Folders : Type 0
Folders = List (Bytes × Files)

-- the files of the first folder of the name; a folder that is not there is empty
abbrev pub files_of : Folders → Bytes → Files
files_of [] name = []
files_of (f ∷ fs) name = if is_same f.0 name then f.1 else files_of fs name

-- a solidus, 47, for a dot, 46
abbrev pub solidus_for_dot : ℕ → ℕ
solidus_for_dot b = if b == 46 then 47 else b

-- the path of a class's file in its folder, as `a/b/C.class` for `a.b.C`
abbrev pub class_file_of : Bytes → Bytes
class_file_of name = map solidus_for_dot name ++ codes ".class"

-- what a class path holds: its folders by name, and those that every door has behind the ones that it was opened for
pub record ClassFolders : Type 0 where
  pub named : Folders
  pub fixed : List Files

-- the folders of a door that is opened for these names
abbrev pub opened : ClassFolders → List Bytes → List Files
opened held names = map (files_of held.named) names ++ held.fixed

-- the bytes of the path in the first folder that has it
abbrev pub first_bytes : List Files → Bytes → Option Bytes
first_bytes [] path = None
first_bytes (files ∷ more) path = option_or (bytes_at files path) (first_bytes more path)

-- what a find of at most so many bytes gives
abbrev pub found_at : List Files → Bytes → ℕ → Reading
found_at folders name most = reading_of most (first_bytes folders (class_file_of name))

-- two counts together, or the greatest number that a count can have
abbrev pub count_and : ℕ → ℕ → ℕ
count_and m n = min (m + n) (2 ^ 64 - 1)

-- The count rises exactly where the door has faults.
abbrev pub TakesFaults : ℕ → ℕ → ℕ → Type 0
TakesFaults old new of_door = MatchBool (of_door == 0) (new ≡ old) (Rises old new)

-- the numbers of the finds that are to fail at one door, of pairs of a door and a find
abbrev pub fails_at : ℕ → List (ℕ × ℕ) → List ℕ
fails_at door pairs = map (λ p. p.1) (filter (λ p. p.0 == door) pairs)
