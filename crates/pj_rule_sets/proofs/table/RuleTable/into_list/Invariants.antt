use Rattle.std.proofs.Common.{◌≡◌, ◌++◌}
use Rattle.pj_rule_sets.proofs.table.RuleTable.into_list.Given as goal

abbrev pub invariant-loop-origin : goal.invariant-loop-origin
invariant-loop-origin l = l.list ++ l.origin-iterator ≡ l.initial.origin-iterator
