use Rattle.std.proofs.Common.{◌≡◌, ◌∙◌, ◌++◌, List, ℕ, IfOk, ap, arith, length, map, subst, sym}
use Rattle.pj_reports.specs.Borrowed.{problem_seen}
use Rattle.pj_reports.specs.CsvWriter.{HasRows}
use Rattle.pj_reports.specs.ReportText.{csv_header, csv_row, csv_rows}
use Rattle.pj_reports.specs.Shown.{Problem, problems}
use Rattle.pj_reports.proofs.CsvFacts.{table, table-all, table-next, table-none}
use Rattle.pj_reports.proofs.csv_form.csv_of.Goals as goal

pub loop-i-init : goal.loop-i-init
loop-i-init c =
    subst (λ (t : List ℕ). HasRows c.put_header.new.writer t) (sym (table-none c.args.report.now.rules _)) (c.in_ok-put_header.ensures _ c.new_writer-writer.ensures)

pub loop-i-preserved : goal.loop-i-preserved
loop-i-preserved c =
    let rules = c.args.report.now.rules in
    let shown = c.deref-problem-items.result.now in
    let i = c.loop-i.i in
    subst (λ (t : List ℕ). HasRows c.put_problem.new.writer t) (sym (table-next rules shown i c.problem-item.result c.loop-i-test.true (sym c.problem-item.is)))
    (c.in_ok-put_problem.ensures (table rules i shown) c.loop-i.invariant)

pub returns : goal.returns
returns c =
    let rules = c.args.report.now.rules in
    let shown = c.deref-problem-items.result.now in
    let all : c.loop-i.i ≡ length shown = omega arith in
    let seen = ap (map problem_seen) c.deref-problem-items.ensures.value ∙ c.in_ok-shown.ensures ∙ ap problems c.as_slice.ensures in
    subst (λ (t : List ℕ). IfOk c.written.result (λ bytes. bytes ≡ t))
    (ap (λ n. table rules n shown) all ∙ table-all rules shown ∙ ap (λ (ps : List Problem). csv_row csv_header ++ csv_rows rules 1 ps) seen)
    (c.written.ensures (table rules c.loop-i.i shown) c.loop-i.invariant)
