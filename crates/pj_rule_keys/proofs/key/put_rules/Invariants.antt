use Rattle.std.proofs.Common.{◌≡◌, ◌++◌, take}
use Rattle.std.specs.List.{flat_map, All}
use Rattle.std.specs.Fmt.{decimal}
use Rattle.pj_rule_keys.specs.Keys.{spelled, rule_texts, FitsTopKey}
use Rattle.pj_rule_keys.proofs.key.put_rules.Given as goal

abbrev pub invariant-loop-rule : goal.invariant-loop-rule
invariant-loop-rule l = record {
  put : l.out.items ≡ l.fn.out.items ++ flat_map (λ r. spelled (decimal r.top) ++ flat_map spelled (rule_texts r)) (take l.rule-index l.rules);
  fit : All FitsTopKey (take l.rule-index l.rules);
}
