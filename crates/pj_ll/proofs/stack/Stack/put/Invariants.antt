use Rattle.std.proofs.Common.{◌≡◌, ◌≤◌, ◌++◌, length, drop}
use Rattle.pj_ll.proofs.stack.Stack.put.Given as goal

abbrev pub invariant-loop-left : goal.invariant-loop-left
invariant-loop-left l = record { within : l.left ≤ length l.symbols; stands : l.self ≡ drop l.left l.symbols ++ l.initial.self }

abbrev pub decreases-loop-left : goal.decreases-loop-left
decreases-loop-left l = l.left
