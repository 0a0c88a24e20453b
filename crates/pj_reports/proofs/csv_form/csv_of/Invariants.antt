use Rattle.pj_reports.specs.CsvWriter.{HasRows}
use Rattle.pj_reports.proofs.CsvFacts.{table}
use Rattle.pj_reports.proofs.csv_form.csv_of.Given as goal

abbrev pub invariant-loop-i : goal.invariant-loop-i
invariant-loop-i l = HasRows l.writer (table l.report.rules l.i l.problem-items)
