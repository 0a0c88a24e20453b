use Rattle.std.proofs.Common.{◌≡◌, take}
use Rattle.pj_names.specs.JavaType.{bound_types, type_list}
use Rattle.pj_members.specs.InClass.{all_substituted}
use Rattle.pj_members.proofs.bounds.all_substituted.Given as goal

abbrev pub invariant-loop-ty : goal.invariant-loop-ty
invariant-loop-ty l = type_list l.made ≡ all_substituted (bound_types l.bound) (type_list (take l.ty-index l.ty-items))
