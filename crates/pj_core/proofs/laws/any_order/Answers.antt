use Rattle.pj_core.proofs.Orders.{any-order, claimed-once, table-true}
use Rattle.pj_core.proofs.laws.any_order.Goals as goal

pub returns-clause-cold : goal.returns-clause-cold
returns-clause-cold g c = any-order

pub returns-clause-once : goal.returns-clause-once
returns-clause-once g c = claimed-once

pub returns-clause-table : goal.returns-clause-table
returns-clause-table g c = table-true
