use Rattle.std.proofs.Common.{◌≡◌, ◌≤◌, length}
use Rattle.pj_xtokens.specs.Literals.{number_from}
use Rattle.pj_xtokens.proofs.literal.number.Given as goal

abbrev pub invariant-digits : goal.invariant-digits
invariant-digits l = record { same : number_from l.value l.left ≡ number_from 0 l.digits; small : l.value ≤ 9223372036854775807 }

abbrev pub decreases-digits : goal.decreases-digits
decreases-digits l = length l.left
