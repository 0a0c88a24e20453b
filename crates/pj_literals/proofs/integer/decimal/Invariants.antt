use Rattle.std.proofs.Common.{◌<◌, ◌^◌}
use Rattle.std.specs.Option.{SomeIff}
use Rattle.pj_literals.specs.Digits.{number_in}
use Rattle.pj_literals.proofs.integer.decimal.Given as goal

abbrev pub invariant-loop-c : goal.invariant-loop-c
invariant-loop-c l = SomeIff l.value (number_in 10 l.yielded < 2 ^ 64) (number_in 10 l.yielded)
