use Rattle.std.proofs.Common.{◌≡◌, ◌∙◌, ◌++◌, List, ℕ, Bor, OnOk, ap, map, subst, rules}
use Rattle.pj_reports.specs.Borrowed.{problem_seen, rule_seen}
use Rattle.pj_reports.specs.CsvWriter.{HasRows}
use Rattle.pj_reports.specs.ReportText.{csv_row, fields_of}
use Rattle.pj_reports.proofs.csv_form.put_problem.Goals as goal

pub returns : goal.returns
returns c = λ text h.
    let p = problem_seen c.args.problem.now in
    let fields : map (λ (f : Bor (List ℕ)). f.now) c.as_slice.result.now ≡ fields_of (rule_seen c.rule_shown-rule.result) c.args.number p = search rules in
    subst (λ (t : List ℕ). OnOk c.put_row.result (HasRows c.put_row.new.writer t))
    (ap (λ fs. text ++ csv_row fs) (fields ∙ ap (λ row. fields_of row c.args.number p) c.rule_shown-rule.ensures)) (c.put_row.ensures text h)
