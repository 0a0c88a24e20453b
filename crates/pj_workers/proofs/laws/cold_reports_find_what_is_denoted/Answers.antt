use Rattle.pj_workers.proofs.ReportLaws.{cold_denoted}
use Rattle.pj_workers.proofs.laws.cold_reports_find_what_is_denoted.Goals as goal

pub returns : goal.returns
returns c = cold_denoted c.files_are_their_rules.ensures.of_rules c.findings_are_denoted.ensures.findings c.rules_find_what_they_denote.ensures.reasons
