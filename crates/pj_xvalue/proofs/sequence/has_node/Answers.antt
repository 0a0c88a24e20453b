use Rattle.std.proofs.Common.{sym, ◌∙◌}
use Rattle.pj_xvalue.proofs.Conditions.{has_node-items}
use Rattle.pj_xvalue.proofs.sequence.has_node.Goals as goal

pub returns : goal.returns
returns c = c.is_some_node.ensures ∙ sym (has_node-items c.args.items.now)
