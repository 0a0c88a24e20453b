use Rattle.std.proofs.Common.{◌≡◌, drop}
use Rattle.pj_names.specs.JavaType.{bound_types}
use Rattle.pj_members.specs.InClass.{is_bound}
use Rattle.pj_members.proofs.bounds.is_bound.Given as goal

abbrev pub invariant-loop-variable : goal.invariant-loop-variable
invariant-loop-variable l = is_bound (bound_types l.bound) l.name ≡ is_bound (bound_types (drop l.variable-index l.variable-items)) l.name
