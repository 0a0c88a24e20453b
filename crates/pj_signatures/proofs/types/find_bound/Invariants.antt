use Rattle.std.proofs.Common.{◌≡◌, drop}
use Rattle.pj_names.specs.JavaType.{JavaType, bound_types}
use Rattle.pj_signatures.specs.Types.{bound_or}
use Rattle.pj_signatures.proofs.types.find_bound.Given as goal

abbrev pub invariant-loop-variable : goal.invariant-loop-variable
invariant-loop-variable l = (other : JavaType) → bound_or other (bound_types l.bindings) l.name ≡ bound_or other (bound_types (drop l.variable-index l.bindings)) l.name
