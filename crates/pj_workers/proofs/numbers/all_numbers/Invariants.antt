use Rattle.std.proofs.Common.{◌≡◌}
use Rattle.pj_workers.specs.Chosen.{numbers_to}
use Rattle.pj_workers.proofs.numbers.all_numbers.Given as goal

abbrev pub invariant-loop-number : goal.invariant-loop-number
invariant-loop-number l = l.numbers ≡ numbers_to l.number
