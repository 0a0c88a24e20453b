use Rattle.std.proofs.Common.{◌≡◌, ◌++◌, ◌-◌}
use Rattle.pj_names.specs.JavaType.{type_list}
use Rattle.pj_overload.specs.Candidates.{variable_arity_types}
use Rattle.pj_overload.proofs.variable_arity.variable_arity_types.Given as goal

abbrev pub invariant-loop-place : goal.invariant-loop-place
invariant-loop-place l =
    type_list l.types ++ variable_arity_types (l.count - l._place) (type_list l.rest) ≡ variable_arity_types l.count (type_list l.parameters)
