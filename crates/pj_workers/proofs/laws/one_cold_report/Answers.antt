use Rattle.pj_workers.proofs.ColdLaws.{one_cold}
use Rattle.pj_workers.proofs.laws.one_cold_report.Goals as goal

pub returns : goal.returns
returns c = one_cold
