use Rattle.std.proofs.Common.{◌≡◌, take}
use Rattle.pj_names.specs.JavaType.{bound_types}
use Rattle.pj_members.specs.InClass.{bounds_substituted}
use Rattle.pj_members.proofs.bounds.bounds_substituted.Given as goal

abbrev pub invariant-loop-name : goal.invariant-loop-name
invariant-loop-name l = bound_types l.made ≡ bounds_substituted (bound_types l.bound) (bound_types (take l.name-index l.name-items))
