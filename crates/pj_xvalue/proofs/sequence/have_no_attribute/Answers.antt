use Rattle.std.proofs.Common.{sym, ◌∙◌}
use Rattle.pj_xvalue.proofs.Conditions.{have_no_attribute-items}
use Rattle.pj_xvalue.proofs.sequence.have_no_attribute.Goals as goal

pub returns : goal.returns
returns c = c.is_each_no_attribute.ensures ∙ sym (have_no_attribute-items c.args.items.now)
