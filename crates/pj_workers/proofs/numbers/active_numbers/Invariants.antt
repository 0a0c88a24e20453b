use Rattle.std.proofs.Common.{◌≡◌, filter}
use Rattle.pj_rule_sets.specs.Active.{is_active_at}
use Rattle.pj_workers.specs.Chosen.{numbers_to}
use Rattle.pj_workers.proofs.numbers.active_numbers.Given as goal

abbrev pub invariant-loop-number : goal.invariant-loop-number
invariant-loop-number l = l.numbers ≡ filter (λ n. is_active_at l.rules n l.path) (numbers_to l.number)
