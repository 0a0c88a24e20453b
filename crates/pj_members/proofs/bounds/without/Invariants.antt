use Rattle.std.proofs.Common.{◌≡◌, ◌++◌, drop}
use Rattle.pj_names.specs.JavaType.{bound_types}
use Rattle.pj_members.specs.InClass.{without}
use Rattle.pj_members.proofs.bounds.without.Given as goal

abbrev pub invariant-loop-name : goal.invariant-loop-name
invariant-loop-name l = bound_types l.left ++ without (bound_types l.own) (bound_types (drop l.name-index l.name-items)) ≡ without (bound_types l.own) (bound_types l.bound)
