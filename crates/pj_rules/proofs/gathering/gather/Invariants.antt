use Rattle.std.proofs.Common.{◌≡◌, ◌++◌, map}
use Rattle.std.specs.List.{flat_map}
use Rattle.pj_rules.specs.Load.{errors_of_top, rules_from}
use Rattle.pj_rules.specs.States.{top_rules}
use Rattle.pj_rules.proofs.gathering.gather.Given as goal

abbrev pub invariant-loop-top : goal.invariant-loop-top
invariant-loop-top l = record {
  rules : l.gathered.rules ++ rules_from l.minimum l.number (map top_rules l.top-iterator.rest.items) ≡ rules_from l.minimum 0 (map top_rules l.fn.tops);
  unusable : l.gathered.unusable ++ flat_map errors_of_top (map top_rules l.top-iterator.rest.items) ≡ flat_map errors_of_top (map top_rules l.fn.tops);
}
