use Rattle.std.proofs.Common.{◌≡◌, drop}
use Rattle.pj_carrying.specs.ByRule.{with_findings}
use Rattle.pj_carrying.proofs.rows.put_findings.Given as goal

abbrev pub invariant-loop-finding : goal.invariant-loop-finding
invariant-loop-finding l = with_findings l.all.items (drop l.finding-index l.findings) ≡ with_findings l.fn.all.items l.findings
