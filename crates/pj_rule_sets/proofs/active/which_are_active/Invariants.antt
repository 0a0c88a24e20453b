use Rattle.std.proofs.Common.{◌≡◌, map, take}
use Rattle.std.specs.Option.{MatchOption}
use Rattle.pj_rule_sets.specs.Active.{is_active}
use Rattle.pj_rule_sets.proofs.active.which_are_active.Given as goal

abbrev pub invariant-loop-rule : goal.invariant-loop-rule
invariant-loop-rule l = record {
  each : l.each ≡ map (λ rule. is_active rule l.path) (take l.rule-index l.rules);
  last : MatchOption l.before (Unit {0}) (λ other. l.is_active ≡ is_active other.now l.path);
}
