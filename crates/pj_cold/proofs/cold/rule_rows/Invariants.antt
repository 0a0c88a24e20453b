use Rattle.std.proofs.Common.{◌≡◌, map, take}
use Rattle.pj_cold.proofs.cold.rule_rows.Given as goal

abbrev pub invariant-loop-rule : goal.invariant-loop-rule
invariant-loop-rule l = l.rows ≡ map (λ rule. rule.row) (take l.rule-index l.rules)
