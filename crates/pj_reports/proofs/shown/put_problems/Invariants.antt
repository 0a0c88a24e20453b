use Rattle.std.proofs.Common.{◌≡◌, ◌++◌, filter, map, take}
use Rattle.pj_reports.specs.Borrowed.{problem_seen}
use Rattle.pj_reports.specs.Shown.{Problem, is_reported}
use Rattle.pj_reports.specs.declared.rows.Finding.{Finding}
use Rattle.pj_reports.proofs.shown.put_problems.Given as goal

abbrev pub invariant-loop-finding : goal.invariant-loop-finding
invariant-loop-finding l =
    let made : Finding → Problem = λ finding. record { path = l.path; package_name = l.rows.package; finding = finding } in
    map problem_seen l.problems.items ≡ map problem_seen l.initial.problems.items ++ map made (filter is_reported (take l.finding-index l.finding-items))
