use Rattle.std.proofs.Common.{◌≡◌, nat_eq, length}
use Rattle.std.specs.Cmp.Lexicographic.{pointwise}
use Rattle.pj_type_tests.specs.Names.{canonical}
use Rattle.pj_type_tests.proofs.names.is_canonical.Given as goal

abbrev pub invariant-bytes : goal.invariant-bytes
invariant-bytes l = pointwise nat_eq (canonical l.name) l.text ≡ pointwise nat_eq (canonical l.ours) l.theirs

abbrev pub decreases-bytes : goal.decreases-bytes
decreases-bytes l = length l.ours
