use Rattle.std.proofs.Common.{◌≡◌, drop}
use Rattle.pj_rule_sets.specs.Lists.{named}
use Rattle.pj_rule_sets.proofs.list.named.Given as goal

abbrev pub invariant-loop-taken : goal.invariant-loop-taken
invariant-loop-taken l = named l.name l.list ≡ named l.name (drop l.taken-index l.list)
