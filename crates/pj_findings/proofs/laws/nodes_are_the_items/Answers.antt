use Rattle.pj_findings.proofs.Elements.{nodes_are_items, nodes_ascend}
use Rattle.pj_findings.proofs.laws.nodes_are_the_items.Goals as goal

pub returns : goal.returns
returns c = record { ascend = nodes_ascend; items = nodes_are_items }
