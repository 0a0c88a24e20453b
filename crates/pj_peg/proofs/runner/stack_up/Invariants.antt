use Rattle.std.proofs.Common.{◌≡◌, ◌++◌, vec_len}
use Rattle.std.specs.Prelude.{reverse}
use Rattle.pj_peg.specs.Emit.{opens}
use Rattle.pj_peg.proofs.runner.stack_up.Given as goal

abbrev pub invariant-loop-call : goal.invariant-loop-call
invariant-loop-call l = opens l.calls.items ++ reverse l.stack.items ≡ opens l.fn.calls.items ++ reverse l.fn.stack.items

abbrev pub decreases-loop-call : goal.decreases-loop-call
decreases-loop-call l = vec_len l.calls
