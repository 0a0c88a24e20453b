-- Class folders have finitely many classes: those whose names their files spell.
use Rattle.std.specs.Prelude.{◌≡◌, ℕ, Bool, true, false, ◌||◌, if◌then◌else◌, List, [], ◌∷◌, ◌++◌, length, nat_eq, nat_lt, Option, None, Some, Result, Ok, Err, refl}
use Rattle.std.proofs.Common.{sym, ◌∙◌}
use Rattle.std.specs.Option.{option_or}
use Rattle.std.specs.Cmp.Lexicographic.{pointwise}
use Rattle.pj_names.specs.Asking.{has_name}
use Rattle.pj_names.specs.ClassName.{Name}
use Rattle.pj_names.specs.declared.answer.ClassInfo.{ClassInfo}
use Rattle.pj_names.specs.declared.answer.ClassFault.{ClassFault}
use Rattle.pj_names.specs.declared.answer.Answer.TheVariants as answers
use Rattle.pj_names.specs.declared.answer.Broken.TheVariants as broken
use Rattle.pj_outside.specs.Doors.{class_file_of, first_bytes}
use Rattle.pj_outside.specs.Files.{Bytes, Files, bytes_at, is_same, reading_of}
use Rattle.pj_outside.specs.declared.refused.Reading.TheVariants as readings
use Rattle.pj_classfile.specs.ClassOf.{answer_from, answer_of, class_of, folder_world}
use Rattle.pj_settling.specs.Settling.{is_found}
use Rattle.pj_settling.proofs.Remaining.{has-append}
use Rattle.pj_settled_runs.specs.Laws.{FoldersFindFinitely}

-- the name of a class that was read
abbrev name_read : Result ClassInfo ClassFault → List Name
name_read (Ok class) = class.name ∷ []
name_read (Err fault) = []

abbrev names_of_files : Files → List Name
names_of_files [] = []
names_of_files (file ∷ files) = name_read (class_of file.1) ++ names_of_files files

abbrev names_of_folders : List Files → List Name
names_of_folders [] = []
names_of_folders (files ∷ folders) = names_of_files files ++ names_of_folders folders

left_false : (a b : Bool) → (a || b) ≡ false → a ≡ false
left_false true b h = absurd (cc h)
left_false false b h = refl

right_false : (a b : Bool) → (a || b) ≡ false → b ≡ false
right_false true b h = absurd (cc h)
right_false false b h = h

module _ (most : ℕ) (name : Name) where
  not_read : (read : Result ClassInfo ClassFault) → has_name (name_read read) name ≡ false → is_found (answer_from name read) ≡ false
  not_read (Ok class) h = at (pointwise nat_eq class.name name) h
    where
      at : (b : Bool) → (b || false) ≡ false → is_found (if b then answers.Found class else answers.Broken broken.OtherName) ≡ false
      at true h = absurd (cc h)
      at false h = refl
  not_read (Err fault) h = refl

  not_in_bytes : (bytes : Bytes) → has_name (name_read (class_of bytes)) name ≡ false → is_found (answer_of name (reading_of most (Some bytes))) ≡ false
  not_in_bytes bytes h = at (nat_lt most (length bytes))
    where
      at : (longer : Bool) → is_found (answer_of name (if longer then readings.Longer else readings.Whole bytes)) ≡ false
      at true = refl
      at false = not_read (class_of bytes) h

  not_in_files : (files : Files) (path : Bytes) → has_name (names_of_files files) name ≡ false → is_found (answer_of name (reading_of most (bytes_at files path))) ≡ false
  not_in_files [] path h = refl
  not_in_files (file ∷ files) path h =
      let none = sym (has-append (name_read (class_of file.1)) (names_of_files files) name) ∙ h in
      at (is_same file.0 path) (not_in_bytes file.1 (left_false (has_name (name_read (class_of file.1)) name) (has_name (names_of_files files) name) none))
      (not_in_files files path (right_false (has_name (name_read (class_of file.1)) name) (has_name (names_of_files files) name) none))
    where
      at : (same : Bool) → is_found (answer_of name (reading_of most (Some file.1))) ≡ false → is_found (answer_of name (reading_of most (bytes_at files path))) ≡ false
          → is_found (answer_of name (reading_of most (if same then Some file.1 else bytes_at files path))) ≡ false
      at true here there = here
      at false here there = there

  not_in_folders : (folders : List Files) (path : Bytes) → has_name (names_of_folders folders) name ≡ false → is_found (answer_of name (reading_of most (first_bytes folders path))) ≡ false
  not_in_folders [] path h = refl
  not_in_folders (files ∷ folders) path h =
      let none = sym (has-append (names_of_files files) (names_of_folders folders) name) ∙ h in
      at (bytes_at files path) (not_in_files files path (left_false (has_name (names_of_files files) name) (has_name (names_of_folders folders) name) none))
      (not_in_folders folders path (right_false (has_name (names_of_files files) name) (has_name (names_of_folders folders) name) none))
    where
      at : (found : Option Bytes) → is_found (answer_of name (reading_of most found)) ≡ false → is_found (answer_of name (reading_of most (first_bytes folders path))) ≡ false
          → is_found (answer_of name (reading_of most (option_or found (first_bytes folders path)))) ≡ false
      at None here there = there
      at (Some bytes) here there = here

  pub not_there : (folders : List Files) → has_name (names_of_folders folders) name ≡ false → is_found (folder_world most folders name) ≡ false
  not_there folders h = not_in_folders folders (class_file_of name) h

pub folders_find_finitely : FoldersFindFinitely
folders_find_finitely folders = record { among = names_of_folders folders; no_others = λ name h. not_there 4194304 name folders h }
