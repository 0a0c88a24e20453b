use Rattle.pj_workers.proofs.SomeCold.{settled_cold}
use Rattle.pj_workers.proofs.laws.settled_cold_report.Goals as goal

pub returns : goal.returns
returns c = settled_cold
