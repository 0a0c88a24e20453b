use Rattle.std.proofs.Common.{◌≡◌, drop}
use Rattle.std.specs.Prelude.{None}
use Rattle.pj_carry.specs.Form.{are_findings_from}
use Rattle.pj_carrying.proofs.form.are_findings.Given as goal

abbrev pub invariant-loop-finding : goal.invariant-loop-finding
invariant-loop-finding l = are_findings_from l.before (drop l.finding-index l.findings) ≡ are_findings_from None l.findings
