use Rattle.std.proofs.Common.{◌≡◌, ◌≤◌, ◌++◌, take, length}
use Rattle.pj_xsteps.specs.Context.{value_of_variable, given_of}
use Rattle.pj_xframes.specs.Scopes.{bound_of}
use Rattle.pj_xframes.proofs.scope.bound_value.Given as goal

abbrev pub invariant-loop-left : goal.invariant-loop-left
invariant-loop-left l = record {
  within : l.left ≤ length l.bound;
  rest : value_of_variable l.name (bound_of (take l.left l.bound) ++ given_of l.given) ≡ value_of_variable l.name (bound_of l.bound ++ given_of l.given);
}

abbrev pub decreases-loop-left : goal.decreases-loop-left
decreases-loop-left l = l.left
