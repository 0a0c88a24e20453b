use Rattle.std.proofs.Common.{length, arith}
use Rattle.pj_xsteps.proofs.OfTree.{arguments-at, arguments-rest}
use Rattle.pj_xsteps.proofs.calling.call_behind_first.Goals as goal

pub call_behind-requires-clause-first : goal.call_behind-requires-clause-first
call_behind-requires-clause-first g c = arguments-at (length c.args.setting.now.tree.now.nodes) c.args.arguments.now 0 c.first-item.result (omega arith) c.first-item.is c.requires

pub call_behind-requires-clause-rest : goal.call_behind-requires-clause-rest
call_behind-requires-clause-rest g c = arguments-rest (length c.args.setting.now.tree.now.nodes) c.args.arguments.now c.requires
