use Rattle.std.proofs.Common.{◌≡◌, ◌++◌}
use Rattle.std.specs.Arc.{arc_value}
use Rattle.std.specs.List.{filter_map}
use Rattle.pj_rules.specs.Load.{error_of, kept_rule}
use Rattle.pj_rules.proofs.gathering.gather_top.Given as goal

abbrev pub invariant-loop-taken : goal.invariant-loop-taken
invariant-loop-taken l = record {
  patterns : arc_value l.patterns ≡ l.fn.top.patterns;
  rules : l.gathered.rules ++ filter_map (kept_rule l.minimum l.number l.fn.top.patterns.exclude l.fn.top.patterns.include) l.taken-iterator.rest.items
      ≡ l.fn.gathered.rules ++ filter_map (kept_rule l.minimum l.number l.fn.top.patterns.exclude l.fn.top.patterns.include) l.fn.top.list;
  unusable : l.gathered.unusable ++ filter_map error_of l.taken-iterator.rest.items ≡ l.fn.gathered.unusable ++ filter_map error_of l.fn.top.list;
}
