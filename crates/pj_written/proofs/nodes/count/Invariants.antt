use Rattle.std.proofs.Common.{◌≡◌, ◌+◌, ◌≤◌, length}
use Rattle.pj_written.proofs.nodes.count.Given as goal

abbrev pub invariant-loop-n : goal.invariant-loop-n
invariant-loop-n l = (l.count + length l.n-iterator ≡ length l.fn.nodes) × (length l.fn.nodes ≤ 2000000)
