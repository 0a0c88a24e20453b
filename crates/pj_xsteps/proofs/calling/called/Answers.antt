use Rattle.std.proofs.Common.{length}
use Rattle.pj_xsteps.proofs.calling.called.Goals as goal

pub name_in-requires : goal.name_in-requires
name_in-requires g c = c.in_ok-items-in-Name.ensures.of_tree (length c.args.setting.now.tree.now.nodes) c.requires.item c.requires.arguments

pub call_one-requires : goal.call_one-requires
call_one-requires g c = c.in_ok-items-in-String.ensures.of_tree (length c.args.setting.now.tree.now.nodes) c.requires.item c.requires.arguments
