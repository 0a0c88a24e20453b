-- For private clauses: what a reading is as a ruleset.
use Rattle.std.specs.Prelude.{◌≡◌, Option, Some, None}
use Rattle.pj_markup.specs.declared.reading.MarkupFault.{MarkupFault}
use Rattle.pj_markup.specs.declared.reading.MarkupFault.TheVariants as markup
use Rattle.pj_outside.specs.declared.refused.Reading.{Reading}
use Rattle.pj_outside.specs.declared.refused.Reading.TheVariants as reading
use Rattle.pj_rule_texts.specs.Files.{AreFault, AreRuleset}
use Rattle.pj_rule_texts.specs.declared.file_fault.FileFault.{FileFault}
use Rattle.pj_rule_texts.specs.declared.file_fault.FileFault.TheVariants.{Markup, TooLong}
use Rattle.pj_rule_texts.specs.declared.file_fault.Unread.{Unread}
use Rattle.pj_rule_texts.specs.declared.file_fault.Unread.TheVariants as unread
use Rattle.pj_rule_texts.specs.declared.written.WrittenRuleset.{WrittenRuleset}

abbrev pub unread_of : MarkupFault → Unread
unread_of (markup.At offset) = unread.Fault (Markup offset)
unread_of (markup.Deep depth offset) = unread.Fault (Markup offset)
unread_of markup.Memory = unread.Memory

-- nothing is there exactly where nothing is written
abbrev pub Gives : Reading → Option WrittenRuleset → Type 0
Gives reading.Absent None = Unit {0}
Gives (reading.Whole bytes) (Some written) = AreRuleset bytes written
Gives _ _ = ⊥

abbrev pub Refuses : Reading → FileFault → Type 0
Refuses reading.Absent fault = ⊥
Refuses reading.Longer fault = fault ≡ TooLong
Refuses (reading.Whole bytes) fault = AreFault bytes fault
