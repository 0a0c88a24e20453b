use Rattle.std.proofs.Common.{◌≡◌, None}
use Rattle.pj_written.specs.Words.{last_in}
use Rattle.pj_written.proofs.nodes.last_in.Given as goal

abbrev pub invariant-loop-n : goal.invariant-loop-n
invariant-loop-n l = last_in l.last l.n-iterator ≡ last_in None l.fn.nodes
