use Rattle.std.proofs.Common.{◌≡◌, ◌%◌, ◌^◌}
use Rattle.pj_literals.specs.Digits.{number_in}
use Rattle.pj_literals.proofs.integer.low_bits.Given as goal

abbrev pub invariant-loop-c : goal.invariant-loop-c
invariant-loop-c l = l.value ≡ number_in l.radix l.yielded % 2 ^ 64
