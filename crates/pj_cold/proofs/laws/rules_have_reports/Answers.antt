use Rattle.pj_cold.proofs.SomeReport.{some_report}
use Rattle.pj_cold.proofs.laws.rules_have_reports.Goals as goal

pub returns : goal.returns
returns c = some_report c.rules_are_sound.ensures c.settled_cold_report.ensures
