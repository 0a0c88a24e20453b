use Rattle.std.proofs.Common.{◌≡◌, map, pos, ◌+ℤ◌}
use Rattle.std.specs.List.{range_with_len}
use Rattle.pj_xvalue.specs.Items.{Integer, values_of}
use Rattle.pj_xsteps.proofs.arithmetic.integers.Given as goal

abbrev pub invariant-loop-place : goal.invariant-loop-place
invariant-loop-place l = values_of l.items ≡ map (λ k. Integer (l.fn.from +ℤ pos k)) (range_with_len 0 l.place)
