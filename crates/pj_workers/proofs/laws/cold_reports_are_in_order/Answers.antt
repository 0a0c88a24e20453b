use Rattle.pj_workers.proofs.OrderLaws.{cold_in_order}
use Rattle.pj_workers.proofs.laws.cold_reports_are_in_order.Goals as goal

pub returns : goal.returns
returns c = cold_in_order c.files_are_their_rules.ensures.in_order
