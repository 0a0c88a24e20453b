use Rattle.pj_carry_laws.proofs.InOrder.{carried_in_order}
use Rattle.pj_carry_laws.proofs.laws.carried_caches_are_in_order.Goals as goal

pub returns : goal.returns
returns c = carried_in_order
