-- What a ruleset file is read as, by the bytes that a tree holds under its path.
use Rattle.std.specs.Prelude.{⊤, ◌≡◌, ℕ, ◌<◌, ◌≤◌, Bool, List, Option, Some, None, Result, Ok, Err, is_some, length, false}
use Rattle.std.specs.Str.{IsUtf8, chars}
use Rattle.std.specs.Str.Lossy.{utf8_valid_len}
use Rattle.pj_markup.specs.Depth.{greatest_depth}
use Rattle.pj_markup.specs.Faults as markup
use Rattle.pj_markup.specs.Markup.{Doc}
use Rattle.pj_markup.specs.declared.element.Row.{Row}
use Rattle.pj_markup.specs.declared.reading.MarkupFault.TheVariants.{At, Deep}
use Rattle.pj_outside.specs.Faults.{Rises}
use Rattle.pj_outside.specs.Files.{Files, bytes_at}
use Rattle.pj_rule_texts.specs.declared.file_fault.FileFault.{FileFault}
use Rattle.pj_rule_texts.specs.declared.file_fault.FileFault.TheVariants.{Markup, TooLong}
use Rattle.pj_rule_texts.specs.declared.file_fault.FileRefused.{FileRefused}
use Rattle.pj_rule_texts.specs.declared.file_fault.FileRefused.TheVariants as refused
use Rattle.pj_rule_texts.specs.declared.file_fault.Unread.{Unread}
use Rattle.pj_rule_texts.specs.declared.file_fault.Unread.TheVariants as unread
use Rattle.pj_rule_texts.specs.Values.{Text}
use Rattle.pj_rule_texts.specs.Written.{root, written_ruleset}
use Rattle.pj_rule_texts.specs.declared.written.WrittenRuleset.{WrittenRuleset}

-- the greatest number of bytes of a ruleset
abbrev pub greatest_size : ℕ
greatest_size = 1048576

-- ---- texts, in characters

-- The text is markup with the root `ruleset`, in which this is written.
pub record IsRuleset (text : List ℕ) (written : WrittenRuleset) : Type 0 where
  pub rows : List Row
  pub is_markup : Doc greatest_depth text rows
  pub is_ruleset : written_ruleset rows ≡ Some written

-- Why a text is no ruleset: it is no markup, or nests too deep, or has another root.
pub data IsTextFault (text : List ℕ) : FileFault → Type 0 where
  no_markup : {offset : ℕ} → markup.IsFault text (At offset) → IsTextFault text (Markup offset)
  too_deep : {depth offset : ℕ} → markup.IsFault text (Deep depth offset) → IsTextFault text (Markup offset)
  other_root : {rows : List Row} → Doc greatest_depth text rows → written_ruleset rows ≡ None → IsTextFault text (Markup (root rows).offset)

-- the fault of markup without a ruleset
abbrev pub IsRootFault : List Row → FileFault → Type 0
IsRootFault rows fault = (fault ≡ Markup (root rows).offset) × (written_ruleset rows ≡ None)

-- ---- bytes

-- The bytes are a ruleset in UTF-8.
pub record AreRuleset (bytes : List ℕ) (written : WrittenRuleset) : Type 0 where
  pub utf8 : IsUtf8 bytes
  pub text : IsRuleset (chars bytes) written

-- Why bytes are no ruleset. That they are not UTF-8 is told before any markup, at the length of their longest front that is.
pub data AreFault (bytes : List ℕ) : FileFault → Type 0 where
  not_utf8 : ¬ (IsUtf8 bytes) → AreFault bytes (Markup (utf8_valid_len bytes))
  of_text : {fault : FileFault} → IsUtf8 bytes → IsTextFault (chars bytes) fault → AreFault bytes fault

-- ---- files

module _ (files : Files) where
  abbrev pub is_there : Text → Bool
  is_there path = is_some (bytes_at files path)

  -- What stands under the path is read as a ruleset.
  pub record IsRead (path : Text) (written : WrittenRuleset) : Type 0 where
    pub bytes : List ℕ
    pub held : bytes_at files path ≡ Some bytes
    pub fits : length bytes ≤ greatest_size
    pub content : AreRuleset bytes written

  -- Why what stands under the path is no ruleset.
  pub data IsUnreadable (path : Text) : FileFault → Type 0 where
    too_long : {bytes : List ℕ} → bytes_at files path ≡ Some bytes → greatest_size < length bytes → IsUnreadable path TooLong
    of_bytes : {bytes : List ℕ} {fault : FileFault} → bytes_at files path ≡ Some bytes → length bytes ≤ greatest_size → AreFault bytes fault → IsUnreadable path fault

  -- what reading the path gives: nothing exactly where nothing is there
  abbrev pub GivesRead : Text → Option WrittenRuleset → Type 0
  GivesRead path None = is_there path ≡ false
  GivesRead path (Some written) = IsRead path written

-- ---- refusals: want of memory has no cause in the files, and a failure of the tree has its own

abbrev pub IfFault : (FileFault → Type 0) → FileRefused → Type 0
IfFault fact (refused.Fault fault) = fact fault
IfFault fact refused.Failed = ⊤
IfFault fact refused.Memory = ⊤

-- the tree's count of faults rises exactly where the call failed
abbrev pub CountsFaults : {A : Type 0} → ℕ → ℕ → Result A FileRefused → Type 0
CountsFaults old new (Ok value) = new ≡ old
CountsFaults old new (Err refused.Failed) = Rises old new
CountsFaults old new (Err refused.Memory) = new ≡ old
CountsFaults old new (Err (refused.Fault fault)) = new ≡ old

-- for private clauses
abbrev pub IfUnread : (FileFault → Type 0) → Unread → Type 0
IfUnread fact (unread.Fault fault) = fact fault
IfUnread fact unread.Memory = ⊤

abbrev pub refused_of : Unread → FileRefused
refused_of (unread.Fault fault) = refused.Fault fault
refused_of unread.Memory = refused.Memory
