-- From a reading to what the files say of it.
use Rattle.std.proofs.Common.{◌≡◌, ℕ, ◌≤◌, Bool, true, false, cond, ltb, List, length, Option, Some, None, Result, Ok, Err, refl, sym, ap, ◌∙◌, subst, IfSome, IfErr}
use Rattle.std.specs.Str.{IsUtf8, chars}
use Rattle.std.proofs.lemmas.Bool.{ltb-true, ltb-false}
use Rattle.pj_markup.specs.Depth.{greatest_depth}
use Rattle.pj_markup.specs.Faults as markup
use Rattle.pj_markup.specs.Markup.{Doc}
use Rattle.pj_markup.specs.declared.element.Row.{Row}
use Rattle.pj_markup.specs.declared.reading.MarkupFault.{MarkupFault}
use Rattle.pj_markup.specs.declared.reading.MarkupFault.TheVariants.{At, Deep}
use Rattle.pj_markup.specs.declared.reading.MarkupFault.TheVariants as none
use Rattle.pj_outside.specs.Files.{Files, bytes_at, read_at, reading_of}
use Rattle.pj_outside.specs.declared.refused.Reading.{Reading}
use Rattle.pj_outside.specs.declared.refused.Reading.TheVariants.{Absent, Longer, Whole}
use Rattle.pj_rule_texts.specs.Files.{AreFault, GivesRead, IfFault, IfUnread, IsRootFault, IsTextFault, IsUnreadable, greatest_size, is_there, refused_of}
use Rattle.pj_rule_texts.specs.Readings.{Gives, Refuses, unread_of}
use Rattle.pj_rule_texts.specs.declared.file_fault.FileFault.{FileFault}
use Rattle.pj_rule_texts.specs.declared.file_fault.FileFault.TheVariants.{TooLong}
use Rattle.pj_rule_texts.specs.declared.file_fault.Unread.{Unread}
use Rattle.pj_rule_texts.specs.declared.file_fault.Unread.TheVariants.{Fault, Memory}
use Rattle.pj_rule_texts.specs.declared.written.WrittenRuleset.{WrittenRuleset}

module _ {A : Type 0} where
  pub of_root : (text : List ℕ) (rows : List Row) → Doc greatest_depth text rows → (r : Result A Unread) → IfErr r (IfUnread (IsRootFault rows)) →
      IfErr r (IfUnread (IsTextFault text))
  of_root text rows doc (Ok value) h = h
  of_root text rows doc (Err (Fault fault)) h = subst (IsTextFault text) (sym h.0) (IsTextFault.other_root doc h.1)
  of_root text rows doc (Err Memory) h = h

  pub of_chars : (bytes text : List ℕ) → text ≡ bytes → IsUtf8 bytes → (r : Result A Unread) → IfErr r (IfUnread (IsTextFault (chars text))) →
      IfErr r (IfUnread (AreFault bytes))
  of_chars bytes text same utf8 (Ok value) h = h
  of_chars bytes text same utf8 (Err (Fault fault)) h = AreFault.of_text utf8 (subst (λ t. IsTextFault (chars t) fault) same h)
  of_chars bytes text same utf8 (Err Memory) h = h

pub of_markup_fault : (text : List ℕ) (fault : MarkupFault) → markup.IsFault text fault → IfUnread (IsTextFault text) (unread_of fault)
of_markup_fault text (At offset) h = IsTextFault.no_markup h
of_markup_fault text (Deep depth offset) h = IsTextFault.too_deep h
of_markup_fault text none.Memory h = h

-- ---- what the bytes under a path are

longer_at : (files : Files) (path : List ℕ) (found : Option (List ℕ)) → bytes_at files path ≡ found → Longer ≡ reading_of greatest_size found → IsUnreadable files path TooLong
longer_at files path None at h = absurd (cc)
longer_at files path (Some bytes) at h = over (ltb greatest_size (length bytes)) refl h
  where
    over : (b : Bool) → ltb greatest_size (length bytes) ≡ b → Longer ≡ cond b Longer (Whole bytes) → IsUnreadable files path TooLong
    over true more h = IsUnreadable.too_long at (ltb-true greatest_size (length bytes) more)
    over false more h = absurd (cc)

-- the bytes that are read whole
record IsHeld (files : Files) (path bytes : List ℕ) : Type 0 where
  at : bytes_at files path ≡ Some bytes
  fits : length bytes ≤ greatest_size

whole_of : (bytes found : List ℕ) (b : Bool) → Whole bytes ≡ cond b Longer (Whole found) → (b ≡ false) × (bytes ≡ found)
whole_of bytes found true h = absurd (cc)
whole_of bytes found false h = (refl, cc)

whole_at : (files : Files) (path bytes : List ℕ) (found : Option (List ℕ)) → bytes_at files path ≡ found → Whole bytes ≡ reading_of greatest_size found → IsHeld files path bytes
whole_at files path bytes None at h = absurd (cc)
whole_at files path bytes (Some other) at h =
    let both = whole_of bytes other (ltb greatest_size (length other)) h in
    record { at = at ∙ ap Some (sym both.1); fits = subst (λ bs. length bs ≤ greatest_size) (sym both.1) (ltb-false greatest_size (length other) both.0) }

refuses : (files : Files) (path : List ℕ) (reading : Reading) → reading ≡ read_at files path greatest_size → (fault : FileFault) → Refuses reading fault → IsUnreadable files path fault
refuses files path Absent is fault h = absurd h
refuses files path Longer is fault h = subst (IsUnreadable files path) (sym h) (longer_at files path (bytes_at files path) refl is)
refuses files path (Whole bytes) is fault h =
    let held = whole_at files path bytes (bytes_at files path) refl is in IsUnreadable.of_bytes held.at held.fits h

absent_at : (files : Files) (path : List ℕ) (found : Option (List ℕ)) → bytes_at files path ≡ found → Absent ≡ reading_of greatest_size found → is_there files path ≡ false
absent_at files path None at h = rw at refl
absent_at files path (Some bytes) at h = over (ltb greatest_size (length bytes)) h
  where
    over : (b : Bool) → Absent ≡ cond b Longer (Whole bytes) → is_there files path ≡ false
    over true h = absurd (cc)
    over false h = absurd (cc)

gives : (files : Files) (path : List ℕ) (reading : Reading) → reading ≡ read_at files path greatest_size → (written : Option WrittenRuleset) → Gives reading written → GivesRead files path written
gives files path Absent is None h = absent_at files path (bytes_at files path) refl is
gives files path Absent is (Some written) h = absurd h
gives files path Longer is None h = absurd h
gives files path Longer is (Some written) h = absurd h
gives files path (Whole bytes) is None h = absurd h
gives files path (Whole bytes) is (Some written) h =
    let held = whole_at files path bytes (bytes_at files path) refl is in record { bytes = bytes; held = held.at; fits = held.fits; content = h }

-- where the tree tells its files
pub refuses_told : (told : Option Files) (path : List ℕ) (reading : Reading) (fault : Unread) → IfSome told (λ files. reading ≡ read_at files path greatest_size) →
    IfUnread (Refuses reading) fault → IfSome told (λ files. IfFault (IsUnreadable files path) (refused_of fault))
refuses_told None path reading fault is h = tt
refuses_told (Some files) path reading (Fault fault) is h = refuses files path reading is fault h
refuses_told (Some files) path reading Memory is h = h

pub gives_told : (told : Option Files) (path : List ℕ) (reading : Reading) (written : Option WrittenRuleset) → IfSome told (λ files. reading ≡ read_at files path greatest_size) →
    Gives reading written → IfSome told (λ files. GivesRead files path written)
gives_told None path reading written is h = tt
gives_told (Some files) path reading written is h = gives files path reading is written h
