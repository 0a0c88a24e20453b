use Rattle.std.proofs.Common.{◌≡◌, ◌++◌, flat_map, take}
use Rattle.pj_reports.specs.Borrowed.{problem_seen}
use Rattle.pj_reports.specs.ReportText.{problem_line}
use Rattle.pj_reports.proofs.text_form.put_problems.Given as goal

abbrev pub invariant-loop-problem : goal.invariant-loop-problem
invariant-loop-problem l = l.text ≡ l.initial.text ++ flat_map (λ p. problem_line l.rules (problem_seen p)) (take l.problem-index l.problems)
