use Rattle.pj_workers.proofs.RuleLaws.{ascends, spots}
use Rattle.pj_workers.proofs.laws.rules_find_nodes.Goals as goal

pub returns : goal.returns
returns c = record { ascend = ascends c.nodes_are_the_items.ensures.ascend; spots = spots c.nodes_are_the_items.ensures.ascend }
