use Rattle.std.proofs.Common.{◌≡◌, map, take}
use Rattle.pj_rule_sets.proofs.expressions.names_of.Given as goal

abbrev pub invariant-loop-variable : goal.invariant-loop-variable
invariant-loop-variable l = l.names ≡ map (λ variable. variable.0) (take l.variable-index l.variables)
