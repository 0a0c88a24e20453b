use Rattle.std.proofs.Common.{◌≡◌, drop}
use Rattle.pj_rule_sets.proofs.Listing.{to_come}
use Rattle.pj_rule_sets.proofs.list.put_without.Given as goal

abbrev pub invariant-loop-taken : goal.invariant-loop-taken
invariant-loop-taken l = to_come l.excludes l.initial.table l.list ≡ to_come l.excludes l.table (drop l.taken-index l.list)
