use Rattle.std.proofs.Common.{◌≡◌, map}
use Rattle.pj_findings.specs.declared.run.RuleRun.{RuleRun}
use Rattle.pj_shared_files.proofs.rows.nameless_runs.Given as goal

abbrev pub invariant-loop-rows : goal.invariant-loop-rows
invariant-loop-rows l = map (λ (run : RuleRun). run.rows) l.runs ≡ l.yielded
