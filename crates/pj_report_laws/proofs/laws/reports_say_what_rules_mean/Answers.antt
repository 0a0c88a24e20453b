use Rattle.pj_report_laws.proofs.ReportLaws.{report_says}
use Rattle.pj_report_laws.proofs.laws.reports_say_what_rules_mean.Goals as goal

pub returns : goal.returns
returns c = report_says c.cold_reports_are_in_order.ensures c.reports_are_in_order.ensures c.cold_reports_say_what_rules_mean.ensures
