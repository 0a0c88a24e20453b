-- The values that the JSON text is written from, for private clauses.
use Rattle.std.specs.Prelude.{Bool, true, false, List, Option, Some, None, map, codes, filter}
use Rattle.std.specs.List.{list_any}
use Rattle.serde_json.specs.Data.{Data, Members, array, member, no_members}
use Rattle.serde_json.specs.Data.{number, object, string, unsigned}
use Rattle.serde_json.specs.View.{items_of}
use Rattle.pj_names.specs.declared.rule_row.ConfigError.{ConfigError}
use Rattle.pj_names.specs.declared.rule_row.RuleRow.{RuleRow}
use Rattle.pj_reports.specs.Shown.{Bytes, PathError, errors, is_reported, is_suppressed, row_of}
use Rattle.pj_reports.specs.ReportText.{reason_word}
use Rattle.pj_reports.specs.declared.report.Report.{Report}
use Rattle.pj_reports.specs.declared.rows.FileRows.{FileRows}
use Rattle.pj_reports.specs.declared.rows.Finding.{Finding}
use Rattle.pj_reports.specs.declared.rows.Reason.{Reason}

abbrev pub suppression_data : Option Reason → Members
suppression_data None = no_members
suppression_data (Some why) = member (codes "suppressiontype") (string (reason_word why)) no_members

-- a violation of a rule with this row
abbrev pub violation_of : RuleRow → Finding → Data
violation_of row finding = object (member (codes "begincolumn") (number (unsigned finding.begin.column))
    (member (codes "beginline") (number (unsigned finding.begin.line))
    (member (codes "description") (string row.message)
    (member (codes "endcolumn") (number (unsigned finding.end.column))
    (member (codes "endline") (number (unsigned finding.end.line))
    (member (codes "priority") (number (unsigned row.priority))
    (member (codes "rule") (string row.name)
    (member (codes "ruleset") (string row.rule_set) (suppression_data finding.reason)))))))))

abbrev pub violation_data : List RuleRow → Finding → Data
violation_data rules finding = violation_of (row_of rules finding.rule) finding

-- those that the list of the suppressed shows, or the other
abbrev pub shows : Bool → Finding → Bool
shows true = is_suppressed
shows false = is_reported

abbrev pub file_data : List RuleRow → (Finding → Bool) → Bytes × FileRows → Data
file_data rules shows file = object (member (codes "filename") (string file.0)
    (member (codes "violations") (array (items_of (map (violation_data rules) (filter shows file.1.findings)))) no_members))

abbrev pub files_data : List RuleRow → (Finding → Bool) → List (Bytes × FileRows) → List Data
files_data rules shows files = map (file_data rules shows) (filter (λ file. list_any shows file.1.findings) files)

abbrev pub config_error_data : ConfigError → Data
config_error_data error = object (member (codes "message") (string error.message) (member (codes "rule") (string error.rule) no_members))

abbrev pub path_error_data : PathError → Data
path_error_data error = object (member (codes "filename") (string error.path) (member (codes "message") (string error.message) no_members))

-- the report with these configuration errors, files, errors of files, and files with what is suppressed
abbrev pub report_of : List Data → List Data → List Data → List Data → Data
report_of config_errors reported path_errors suppressed = object (member (codes "configurationErrors") (array (items_of config_errors))
    (member (codes "files") (array (items_of reported))
    (member (codes "formatVersion") (number (unsigned 0))
    (member (codes "processingErrors") (array (items_of path_errors))
    (member (codes "suppressedViolations") (array (items_of suppressed)) no_members)))))

abbrev pub report_data : Report → Data
report_data r = report_of (map config_error_data r.errors) (files_data r.rules is_reported r.files) (map path_error_data (errors r.files))
    (files_data r.rules is_suppressed r.files)
