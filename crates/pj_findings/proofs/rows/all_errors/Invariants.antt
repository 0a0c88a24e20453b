use Rattle.std.proofs.Common.{◌≡◌, ◌++◌, drop, map}
use Rattle.pj_findings.specs.Merged.{errors_from}
use Rattle.pj_findings.specs.declared.run.RuleRun.{RuleRun}
use Rattle.pj_findings.proofs.rows.all_errors.Given as goal

abbrev pub invariant-loop-i : goal.invariant-loop-i
invariant-loop-i l = l.errors.items ++ errors_from l.i (map (λ (run : RuleRun). run.rows) (drop l.i l.runs)) ≡ errors_from 0 (map (λ (run : RuleRun). run.rows) l.runs)
