use Rattle.pj_workers.proofs.SomeCold.{some_cold}
use Rattle.pj_workers.proofs.laws.some_cold_report.Goals as goal

pub returns : goal.returns
returns c = some_cold
