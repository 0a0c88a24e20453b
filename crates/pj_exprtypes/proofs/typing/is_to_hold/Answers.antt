use Rattle.std.proofs.Common.{arith}
use Rattle.pj_exprtypes.proofs.Depth.{deep-enough}
use Rattle.pj_exprtypes.proofs.typing.is_to_hold.Goals as goal

pub returns : goal.returns
returns c = λ is var. deep-enough c.args.tree.now c.len.ensures.tree var c.args.left c.args.n (omega (arith, c.len.ensures.value))
