use Rattle.std.proofs.Common.{arith}
use Rattle.pj_xfuncs.proofs.More.{more-arguments}
use Rattle.pj_xfuncs.proofs.library.by_number.Goals as goal

pub returns-in_default : goal.returns-in_default
returns-in_default c = more-arguments c.args.patterns.now c.args.function c.args.arguments.now (omega arith)
