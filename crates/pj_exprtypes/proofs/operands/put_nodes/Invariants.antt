use Rattle.std.proofs.Common.{◌≡◌, ◌++◌}
use Rattle.pj_exprtypes.proofs.operands.put_nodes.Given as goal

abbrev pub invariant-loop-n : goal.invariant-loop-n
invariant-loop-n l = l.nodes ++ l.n-iterator ≡ l.fn.nodes ++ l.fn.more
