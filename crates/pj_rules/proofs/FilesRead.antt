-- Bytes are a ruleset, or they have a fault.
use Rattle.std.proofs.Common.{◌≡◌, ◌≢◌, ◌≤◌, ℕ, Bool, true, false, ltb, ◌⊎◌, inl, inr, List, length, Option, Some, None, refl, sym, ◌∙◌, ap}
use Rattle.std.specs.Prelude.{IsTrue, is_some}
use Rattle.std.specs.Str.{IsUtf8, chars, is_utf8}
use Rattle.std.proofs.lemmas.Bool.{ltb-true, ltb-false}
use Rattle.std.proofs.lemmas.Str.{IsUtf8-from_is_utf8, is_utf8-from_IsUtf8}
use Rattle.pj_markup.specs.Depth.{greatest_depth}
use Rattle.pj_markup.specs.Faults as markup
use Rattle.pj_markup.specs.Markup.{Doc}
use Rattle.pj_markup.specs.declared.element.Row.{Row}
use Rattle.pj_markup.specs.declared.reading.MarkupFault.{MarkupFault}
use Rattle.pj_markup.specs.declared.reading.MarkupFault.TheVariants.{At, Deep, Memory}
use Rattle.pj_outside.specs.Files.{Files, bytes_at}
use Rattle.pj_rule_texts.specs.Files.{AreFault, AreRuleset, IsRead, IsTextFault, IsRuleset, IsUnreadable, greatest_size, is_there}
use Rattle.pj_rule_texts.specs.Written.{written_ruleset}
use Rattle.pj_rule_texts.specs.declared.file_fault.FileFault.{FileFault}
use Rattle.pj_rule_texts.specs.declared.file_fault.FileFault.TheVariants.{TooLong}
use Rattle.pj_rule_texts.specs.declared.written.WrittenRuleset.{WrittenRuleset}

-- each text of markup has a reading or a fault
abbrev pub Readings : Type 0
Readings = (text : List ℕ) → ((rows : List Row) × Doc greatest_depth text rows) ⊎ ((fault : MarkupFault) × (fault ≢ Memory) × markup.IsFault text fault)

module _ (readings : Readings) where
  of_rows : (text : List ℕ) (rows : List Row) → Doc greatest_depth text rows → (found : Option WrittenRuleset) → written_ruleset rows ≡ found
      → ((written : WrittenRuleset) × IsRuleset text written) ⊎ ((fault : FileFault) × IsTextFault text fault)
  of_rows text rows doc None is = inr (_, IsTextFault.other_root doc is)
  of_rows text rows doc (Some written) is = inl (written, record { rows = rows; is_markup = doc; is_ruleset = is })

  of_fault : (text : List ℕ) (fault : MarkupFault) → fault ≢ Memory → markup.IsFault text fault → (found : FileFault) × IsTextFault text found
  of_fault text (At offset) real is = (_, IsTextFault.no_markup is)
  of_fault text (Deep depth offset) real is = (_, IsTextFault.too_deep is)
  of_fault text Memory real is = absurd (real refl)

  of_text : (text : List ℕ) → ((written : WrittenRuleset) × IsRuleset text written) ⊎ ((fault : FileFault) × IsTextFault text fault)
  of_text text = elim (readings text) [
    | inl (rows, doc) ↦ of_rows text rows doc (written_ruleset rows) refl
    | inr (fault, real, is) ↦ inr (of_fault text fault real is)
  ]

  pub of_bytes : (bytes : List ℕ) → ((written : WrittenRuleset) × AreRuleset bytes written) ⊎ ((fault : FileFault) × AreFault bytes fault)
  of_bytes bytes = by (is_utf8 bytes) refl
    where
      of_utf8 : IsUtf8 bytes → ((written : WrittenRuleset) × IsRuleset (chars bytes) written) ⊎ ((fault : FileFault) × IsTextFault (chars bytes) fault)
          → ((written : WrittenRuleset) × AreRuleset bytes written) ⊎ ((fault : FileFault) × AreFault bytes fault)
      of_utf8 utf8 (inl (written, is)) = inl (written, record { utf8 = utf8; text = is })
      of_utf8 utf8 (inr (fault, is)) = inr (fault, AreFault.of_text utf8 is)

      by : (b : Bool) → is_utf8 bytes ≡ b → ((written : WrittenRuleset) × AreRuleset bytes written) ⊎ ((fault : FileFault) × AreFault bytes fault)
      by true e = of_utf8 (IsUtf8-from_is_utf8 bytes e) (of_text (chars bytes))
      by false e = inr (_, AreFault.not_utf8 (λ utf8. let both : true ≡ false = sym (is_utf8-from_IsUtf8 bytes utf8) ∙ e in absurd (cc)))

  module _ (files : Files) (path : List ℕ) where
    abbrev Reads : Type 0
    Reads = ((written : WrittenRuleset) × IsRead files path written) ⊎ ((fault : FileFault) × IsUnreadable files path fault)

    fitting : (bytes : List ℕ) → bytes_at files path ≡ Some bytes → length bytes ≤ greatest_size → ((written : WrittenRuleset) × AreRuleset bytes written) ⊎ ((fault : FileFault) × AreFault bytes fault) → Reads
    fitting bytes at fits (inl (written, are)) = inl (written, record { bytes = bytes; held = at; fits = fits; content = are })
    fitting bytes at fits (inr (fault, are)) = inr (fault, IsUnreadable.of_bytes at fits are)

    of_held : (found : Option (List ℕ)) → bytes_at files path ≡ found → IsTrue (is_some found) → Reads
    of_held None at there = absurd (cc)
    of_held (Some bytes) at there = by (ltb greatest_size (length bytes)) refl
      where
        by : (b : Bool) → ltb greatest_size (length bytes) ≡ b → Reads
        by true e = inr (TooLong, IsUnreadable.too_long at (ltb-true greatest_size (length bytes) e))
        by false e = fitting bytes at (ltb-false greatest_size (length bytes) e) (of_bytes bytes)

    pub of_file : IsTrue (is_there files path) → Reads
    of_file there = of_held (bytes_at files path) refl there
