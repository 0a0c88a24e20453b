use Rattle.std.proofs.Common.{◌∙◌}
use Rattle.pj_carrying.proofs.ByRule.{all_below, group_is, rows_long}
use Rattle.pj_carrying.proofs.entries.group_of.Goals as goal

pub group_by-requires : goal.group_by-requires
group_by-requires c = all_below c.args.firsts.now c.args.count c.as_slice.result.now (rows_long c.args.count c.args.rows.now _ (c.as_slice.ensures.value ∙ c.in_ok-all.ensures)) c.requires

pub returns : goal.returns
returns c = c.in_ok-group.ensures ∙ group_is c.args.count c.args.rows.now c.as_slice.result.now c.args.firsts.now (c.as_slice.ensures.value ∙ c.in_ok-all.ensures) c.requires
