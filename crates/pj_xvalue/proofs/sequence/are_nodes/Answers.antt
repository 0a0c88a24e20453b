use Rattle.std.proofs.Common.{sym, ◌∙◌}
use Rattle.pj_xvalue.proofs.Conditions.{are_nodes-items}
use Rattle.pj_xvalue.proofs.sequence.are_nodes.Goals as goal

pub returns : goal.returns
returns c = c.is_each_node.ensures ∙ sym (are_nodes-items c.args.items.now)
