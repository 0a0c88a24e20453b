use Rattle.std.proofs.Common.{◌≡◌, map, take}
use Rattle.pj_reports.specs.Borrowed.{problem_seen}
use Rattle.pj_reports.specs.Shown.{problems}
use Rattle.pj_reports.proofs.shown.problems.Given as goal

abbrev pub invariant-loop-path : goal.invariant-loop-path
invariant-loop-path l = map problem_seen l.found.items ≡ problems (take l.path-index l.files)
