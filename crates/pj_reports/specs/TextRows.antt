-- The rows of the texts as lists, for their laws.
use Rattle.std.specs.Prelude.{◌+◌, ◌++◌, ◌∷◌, [], ℕ, List, map}
use Rattle.pj_names.specs.declared.rule_row.RuleRow.{RuleRow}
use Rattle.pj_reports.specs.ReportText.{fault_line, problem_fields, problem_line}
use Rattle.pj_reports.specs.Shown.{Bytes, Problem, errors, problems}
use Rattle.pj_reports.specs.declared.report.Report.{Report}

-- one line for each finding that is reported, each error of a file and each configuration error
abbrev pub text_lines : Report → List Bytes
text_lines r = map (problem_line r.rules) (problems r.files)
    ++ (map (λ error. fault_line error.path error.message) (errors r.files)
    ++ map (λ error. fault_line error.rule error.message) r.errors)

-- the fields of problems, numbered from a number on
abbrev pub numbered_fields : List RuleRow → ℕ → List Problem → List (List Bytes)
numbered_fields rules number [] = []
numbered_fields rules number (p ∷ ps) = problem_fields rules number p ∷ numbered_fields rules (number + 1) ps
