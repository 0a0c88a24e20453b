use Rattle.std.proofs.Common.{◌≡◌, ◌+◌, map, drop}
use Rattle.pj_rules.specs.Gathering.{counted}
use Rattle.pj_rules.specs.States.{top_rules}
use Rattle.pj_rules.proofs.counting.count_of.Given as goal

abbrev pub invariant-loop-top : goal.invariant-loop-top
invariant-loop-top l = l.count + counted l.minimum (map top_rules (drop l.top-index l.tops)) ≡ counted l.minimum (map top_rules l.tops)
