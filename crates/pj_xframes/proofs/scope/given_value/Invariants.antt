use Rattle.std.proofs.Common.{◌≡◌, drop}
use Rattle.pj_xsteps.specs.Context.{value_of_variable, given_of}
use Rattle.pj_xframes.proofs.scope.given_value.Given as goal

abbrev pub invariant-loop-variable : goal.invariant-loop-variable
invariant-loop-variable l = value_of_variable l.name (given_of (drop l.variable-index l.variable-items)) ≡ value_of_variable l.name (given_of l.given)
