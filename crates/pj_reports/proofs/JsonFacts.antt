-- The compact text of the report's value is the text that the specs write out.
use Rattle.std.proofs.Common.{Option, Some, None, filter, ◌≡◌, ◌∙◌, List, [], ◌∷◌, ◌++◌, map, ap, ap₂, refl, sym, append_assoc, Bool, true, false, lit<, codes}
use Rattle.std.proofs.lemmas.Fmt.{decimal_digit}
use Rattle.serde_json.specs.Data.{Data}
use Rattle.serde_json.specs.View.{items_of}
use Rattle.std.specs.List.{list_any}
use Rattle.serde_json.specs.Written.{compact_text, has_float, items_have_float, items_text, members_have_float, members_text}
use Rattle.serde_json.proofs.OnLiterals.{serde_json_on_literals}
use Rattle.pj_names.specs.declared.rule_row.ConfigError.{ConfigError}
use Rattle.pj_names.specs.declared.rule_row.RuleRow.{RuleRow}
use Rattle.pj_reports.specs.JsonData.{config_error_data, file_data, path_error_data, report_data, suppression_data, violation_data}
use Rattle.pj_reports.specs.ReportText.{config_error_text, each_after_comma, file_text, json_report, json_value, path_error_text, suppression_text, violation_text, with_commas}
use Rattle.pj_reports.specs.Shown.{Bytes, PathError, errors, is_reported, is_suppressed}
use Rattle.pj_reports.specs.declared.report.Report.{Report}
use Rattle.pj_reports.specs.declared.rows.FileRows.{FileRows}
use Rattle.pj_reports.specs.declared.rows.Finding.{Finding}
use Rattle.pj_reports.specs.declared.rows.Reason.{Reason}
use Rattle.pj_reports.specs.declared.rows.Reason.TheVariants as reason

module _ {X : Type 0} (value : X → Data) where
  later_items : (text : X → Bytes) → ((x : X) → compact_text (value x) ≡ text x) → (xs : List X)
      → items_text true (items_of (map value xs)) ≡ each_after_comma (map text xs) ++ 93 ∷ []
  later_items text same [] = refl
  later_items text same (x ∷ xs) =
      ap (λ t. 44 ∷ t) (ap₂ (λ s t. s ++ t) (same x) (later_items text same xs) ∙ sym (append_assoc (text x) (each_after_comma (map text xs)) (93 ∷ [])))

  -- the items of an array, with the bracket that closes it and what follows
  pub all_items : (text : X → Bytes) → ((x : X) → compact_text (value x) ≡ text x) → (xs : List X) (rest : Bytes)
      → items_text false (items_of (map value xs)) ++ rest ≡ with_commas (map text xs) ++ 93 ∷ rest
  all_items text same [] rest = refl
  all_items text same (x ∷ xs) rest =
      ap (λ t. t ++ rest) (ap₂ (λ s t. s ++ t) (same x) (later_items text same xs) ∙ sym (append_assoc (text x) (each_after_comma (map text xs)) (93 ∷ [])))
      ∙ append_assoc (text x ++ each_after_comma (map text xs)) (93 ∷ []) rest

  pub no_floats : ((x : X) → has_float (value x) ≡ false) → (xs : List X) → items_have_float (items_of (map value xs)) ≡ false
  no_floats none [] = refl
  no_floats none (x ∷ xs) = rw (none x) (no_floats none xs)

-- the last member, and the brace that closes
suppression-text : (why : Option Reason) → members_text true (suppression_data why) ≡ suppression_text why ++ codes "}"
unfolding serde_json_on_literals
suppression-text None = refl
suppression-text (Some reason.Annotation) = refl
suppression-text (Some reason.Comment) = refl
suppression-text (Some reason.Regex) = refl
suppression-text (Some reason.XPath) = refl

violation-text : (rules : List RuleRow) (f : Finding) → compact_text (violation_data rules f) ≡ violation_text rules f
unfolding serde_json_on_literals
violation-text rules f = rw (suppression-text f.reason) refl

suppression-no_float : (why : Option Reason) → members_have_float (suppression_data why) ≡ false
suppression-no_float None = refl
suppression-no_float (Some why) = refl

violation-no_float : (rules : List RuleRow) (f : Finding) → has_float (violation_data rules f) ≡ false
violation-no_float rules f = suppression-no_float f.reason

module _ (rules : List RuleRow) (shows : Finding → Bool) where
  file-text : (file : Bytes × FileRows) → compact_text (file_data rules shows file) ≡ file_text rules shows file
  unfolding serde_json_on_literals
  file-text file = rw (all_items (violation_data rules) (violation_text rules) (violation-text rules) (filter shows file.1.findings)) refl

  file-no_float : (file : Bytes × FileRows) → has_float (file_data rules shows file) ≡ false
  file-no_float file = rw (no_floats (violation_data rules) (violation-no_float rules) (filter shows file.1.findings)) refl

config_error-text : (e : ConfigError) → compact_text (config_error_data e) ≡ config_error_text e
unfolding serde_json_on_literals
config_error-text e = refl

path_error-text : (e : PathError) → compact_text (path_error_data e) ≡ path_error_text e
unfolding serde_json_on_literals
path_error-text e = refl

-- the files that a list shows
shown : (Finding → Bool) → Report → List (Bytes × FileRows)
shown shows r = filter (λ file. list_any shows file.1.findings) r.files

pub report-no_float : (r : Report) → has_float (report_data r) ≡ false
unfolding shown
report-no_float r = rw (
  no_floats config_error_data (λ e. refl) r.errors,
  no_floats (file_data r.rules is_reported) (file-no_float r.rules is_reported) (shown is_reported r),
  no_floats path_error_data (λ e. refl) (errors r.files),
  no_floats (file_data r.rules is_suppressed) (file-no_float r.rules is_suppressed) (shown is_suppressed r),
) refl

report-value : (r : Report) → compact_text (report_data r) ≡ json_value r
unfolding serde_json_on_literals shown
report-value r = rw (
  all_items config_error_data config_error_text config_error-text r.errors,
  all_items (file_data r.rules is_reported) (file_text r.rules is_reported) (file-text r.rules is_reported) (shown is_reported r),
  decimal_digit 0 (lit< tt),
  all_items path_error_data path_error_text path_error-text (errors r.files),
  all_items (file_data r.rules is_suppressed) (file_text r.rules is_suppressed) (file-text r.rules is_suppressed) (shown is_suppressed r),
) refl

pub report-text : (r : Report) → compact_text (report_data r) ++ 10 ∷ [] ≡ json_report r
report-text r = ap (λ t. t ++ 10 ∷ []) (report-value r)
