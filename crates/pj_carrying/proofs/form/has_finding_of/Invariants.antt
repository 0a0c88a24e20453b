use Rattle.std.proofs.Common.{◌≡◌, drop}
use Rattle.std.specs.List.{list_any}
use Rattle.pj_reports.specs.declared.rows.Finding.{Finding}
use Rattle.pj_cache_format.specs.FormatTwo.{has}
use Rattle.pj_carrying.proofs.form.has_finding_of.Given as goal

abbrev pub invariant-loop-finding : goal.invariant-loop-finding
invariant-loop-finding l = list_any (λ (f : Finding). has l.held.keys f.rule) (drop l.finding-index l.findings) ≡ list_any (λ (f : Finding). has l.held.keys f.rule) l.findings
