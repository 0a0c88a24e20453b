use Rattle.std.proofs.Common.{◌≡◌, map, take}
use Rattle.std.specs.List.{All}
use Rattle.pj_rule_keys.specs.Keys.{FitsKey, HasRoom, key_of}
use Rattle.pj_rule_sets.specs.Rules.{EffectiveRule}
use Rattle.pj_check.proofs.analysing.rule_keys.Given as goal

abbrev pub invariant-loop-number : goal.invariant-loop-number
invariant-loop-number l = record {
  keys : l.keys ≡ map (λ (rule : EffectiveRule). key_of l.rules.marker rule) (take l.number l.rules.rules);
  room : All (λ (rule : EffectiveRule). HasRoom l.rules.marker × FitsKey rule) (take l.number l.rules.rules);
}
