use Rattle.std.proofs.Common.{◌≡◌, ◌++◌, List, ℕ, Bor, OnOk, ap, map, subst, rules}
use Rattle.pj_reports.specs.CsvWriter.{HasRows}
use Rattle.pj_reports.specs.ReportText.{csv_header, csv_row}
use Rattle.pj_reports.proofs.csv_form.put_header.Goals as goal

pub returns : goal.returns
returns c = λ text h.
    let fields : map (λ (f : Bor (List ℕ)). f.now) c.as_slice.result.now ≡ csv_header = search rules in
    subst (λ (t : List ℕ). OnOk c.put_row.result (HasRows c.put_row.new.writer t)) (ap (λ fs. text ++ csv_row fs) fields) (c.put_row.ensures text h)
