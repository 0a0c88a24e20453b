-- Which rows of a report its texts show, and what of a rule.
use Rattle.std.specs.Prelude.{ℕ, Bool, not, List, [], is_some, unwrap_or, slice_get, filter, flat_map, map}
use Rattle.pj_names.specs.declared.rule_row.RuleRow.{RuleRow}
use Rattle.pj_reports.specs.declared.rows.FileRows.{FileRows}
use Rattle.pj_reports.specs.declared.rows.Finding.{Finding}

abbrev pub Bytes : Type 0
Bytes = List ℕ

-- what is shown for a rule number that has no row, as a cache that was not left by this program may hold one
abbrev pub no_row : RuleRow
no_row = record { name = []; message = []; priority = 5; rule_set = [] }

-- the row of a rule number
abbrev pub row_of : List RuleRow → ℕ → RuleRow
row_of rules number = unwrap_or (slice_get rules number) no_row

-- a finding that something suppresses
abbrev pub is_suppressed : Finding → Bool
is_suppressed finding = is_some finding.reason

-- a finding that nothing suppresses
abbrev pub is_reported : Finding → Bool
is_reported finding = not (is_suppressed finding)

-- a finding that is reported, with its file
pub record Problem : Type 0 where
  pub path : Bytes
  pub package_name : Bytes
  pub finding : Finding

-- the findings of a file that are reported
abbrev pub problems_of : Bytes → FileRows → List Problem
problems_of path rows = map (λ finding. record { path = path; package_name = rows.package; finding = finding }) (filter is_reported rows.findings)

-- and of all files
abbrev pub problems : List (Bytes × FileRows) → List Problem
problems files = flat_map (λ file. problems_of file.0 file.1) files

-- an error of a file, with its file
pub record PathError : Type 0 where
  pub path : Bytes
  pub message : Bytes

-- the errors of a file
abbrev pub errors_of : Bytes → FileRows → List PathError
errors_of path rows = map (λ error. record { path = path; message = error.message }) rows.errors

-- and of all files
abbrev pub errors : List (Bytes × FileRows) → List PathError
errors files = flat_map (λ file. errors_of file.0 file.1) files
