-- The three texts of a report, beside each other.
--
-- Each is plain concatenation. All lists go in the report's order: by file, and within a file as its rows stand.
use Rattle.std.specs.Prelude.{◌==◌, ◌+◌, ℕ, Bool, List, [], ◌∷◌, ◌++◌, Option, Some, None, codes, decimal, filter, flat_map, map}
use Rattle.std.specs.Prelude.{if◌then◌else◌}
use Rattle.std.specs.List.{list_any}
use Rattle.json.specs.Print.{quoted}
use Rattle.pj_names.specs.declared.rule_row.ConfigError.{ConfigError}
use Rattle.pj_names.specs.declared.rule_row.RuleRow.{RuleRow}
use Rattle.pj_reports.specs.Shown.{Bytes, PathError, Problem, errors, is_reported, is_suppressed, problems, row_of}
use Rattle.pj_reports.specs.declared.report.Report.{Report}
use Rattle.pj_reports.specs.declared.rows.FileRows.{FileRows}
use Rattle.pj_reports.specs.declared.rows.Finding.{Finding}
use Rattle.pj_reports.specs.declared.rows.Reason.{Reason}
use Rattle.pj_reports.specs.declared.rows.Reason.TheVariants as reason

-- the texts one after the other
abbrev pub joined : List Bytes → Bytes
joined texts = flat_map (λ text. text) texts

-- the texts with a comma before each
abbrev pub each_after_comma : List Bytes → Bytes
each_after_comma [] = []
each_after_comma (text ∷ texts) = 44 ∷ (text ++ each_after_comma texts)

-- the texts with commas between them
abbrev pub with_commas : List Bytes → Bytes
with_commas [] = []
with_commas (text ∷ texts) = text ++ each_after_comma texts

-- ---- text: the findings that are reported, then the errors of files, then the configuration errors, a line each

abbrev pub line_of : RuleRow → Problem → Bytes
line_of row p =
    joined (p.path ∷ codes ":" ∷ decimal p.finding.begin.line ∷ codes ":\t" ∷ row.name ∷ codes ":\t" ∷ row.message ∷ codes "\n" ∷ [])

abbrev pub problem_line : List RuleRow → Problem → Bytes
problem_line rules p = line_of (row_of rules p.finding.rule) p

abbrev pub fault_line : Bytes → Bytes → Bytes
fault_line subject message = joined (subject ∷ codes "\t-\t" ∷ message ∷ codes "\n" ∷ [])

abbrev pub text_report : Report → Bytes
text_report r = flat_map (problem_line r.rules) (problems r.files)
    ++ (flat_map (λ error. fault_line error.path error.message) (errors r.files)
    ++ flat_map (λ error. fault_line error.rule error.message) r.errors)

-- ---- CSV: a header, and a row for each finding that is reported, numbered from 1; no errors stand in it

-- a quote is written twice
abbrev pub doubled : ℕ → Bytes
doubled byte = if byte == 34 then 34 ∷ 34 ∷ [] else byte ∷ []

abbrev pub csv_field : Bytes → Bytes
csv_field text = 34 ∷ (flat_map doubled text ++ 34 ∷ [])

-- each field in quotes, commas between them, and a line feed
unfoldable pub csv_row : List Bytes → Bytes
csv_row fields = with_commas (map csv_field fields) ++ codes "\n"

abbrev pub csv_header : List Bytes
csv_header = codes "Problem" ∷ codes "Package" ∷ codes "File" ∷ codes "Priority" ∷ codes "Line" ∷ codes "Description" ∷ codes "Rule set" ∷ codes "Rule" ∷ []

abbrev pub fields_of : RuleRow → ℕ → Problem → List Bytes
fields_of row number p =
    decimal number ∷ p.package_name ∷ p.path ∷ decimal row.priority ∷ decimal p.finding.begin.line ∷ row.message ∷ row.rule_set ∷ row.name ∷ []

abbrev pub problem_fields : List RuleRow → ℕ → Problem → List Bytes
problem_fields rules number p = fields_of (row_of rules p.finding.rule) number p

-- the rows of problems, numbered from a number on
unfoldable pub csv_rows : List RuleRow → ℕ → List Problem → Bytes
csv_rows rules number [] = []
csv_rows rules number (p ∷ ps) = csv_row (problem_fields rules number p) ++ csv_rows rules (number + 1) ps

abbrev pub csv_report : Report → Bytes
csv_report r = csv_row csv_header ++ csv_rows r.rules 1 (problems r.files)

-- ---- JSON: one object without spaces, and a line feed. Strings are quoted as the JSON crate quotes them

abbrev pub reason_word : Reason → Bytes
reason_word reason.Annotation = codes "annotation"
reason_word reason.Comment = codes "comment"
reason_word reason.Regex = codes "regex"
reason_word reason.XPath = codes "xpath"

-- the last member of a violation, where it is suppressed
abbrev pub suppression_text : Option Reason → Bytes
suppression_text None = []
suppression_text (Some why) = joined (codes ",\"suppressiontype\":" ∷ quoted (reason_word why) ∷ [])

abbrev pub violation_text : List RuleRow → Finding → Bytes
violation_text rules finding =
    let row = row_of rules finding.rule in
    joined (codes "{\"begincolumn\":" ∷ decimal finding.begin.column ∷ codes ",\"beginline\":" ∷ decimal finding.begin.line
    ∷ codes ",\"description\":" ∷ quoted row.message ∷ codes ",\"endcolumn\":" ∷ decimal finding.end.column
    ∷ codes ",\"endline\":" ∷ decimal finding.end.line ∷ codes ",\"priority\":" ∷ decimal row.priority
    ∷ codes ",\"rule\":" ∷ quoted row.name ∷ codes ",\"ruleset\":" ∷ quoted row.rule_set
    ∷ suppression_text finding.reason ∷ codes "}" ∷ [])

-- a file with those of its findings that a list shows
abbrev pub file_text : List RuleRow → (Finding → Bool) → Bytes × FileRows → Bytes
file_text rules shows file = joined (codes "{\"filename\":" ∷ quoted file.0 ∷ codes ",\"violations\":["
    ∷ with_commas (map (violation_text rules) (filter shows file.1.findings)) ∷ codes "]}" ∷ [])

-- the files that have some such finding
abbrev pub file_texts : List RuleRow → (Finding → Bool) → List (Bytes × FileRows) → List Bytes
file_texts rules shows files = map (file_text rules shows) (filter (λ file. list_any shows file.1.findings) files)

abbrev pub config_error_text : ConfigError → Bytes
config_error_text error = joined (codes "{\"message\":" ∷ quoted error.message ∷ codes ",\"rule\":" ∷ quoted error.rule ∷ codes "}" ∷ [])

abbrev pub path_error_text : PathError → Bytes
path_error_text error = joined (codes "{\"filename\":" ∷ quoted error.path ∷ codes ",\"message\":" ∷ quoted error.message ∷ codes "}" ∷ [])

abbrev pub json_value : Report → Bytes
json_value r = joined (codes "{\"configurationErrors\":[" ∷ with_commas (map config_error_text r.errors)
    ∷ codes "],\"files\":[" ∷ with_commas (file_texts r.rules is_reported r.files)
    ∷ codes "],\"formatVersion\":0,\"processingErrors\":[" ∷ with_commas (map path_error_text (errors r.files))
    ∷ codes "],\"suppressedViolations\":[" ∷ with_commas (file_texts r.rules is_suppressed r.files)
    ∷ codes "]}" ∷ [])

abbrev pub json_report : Report → Bytes
json_report r = json_value r ++ codes "\n"
