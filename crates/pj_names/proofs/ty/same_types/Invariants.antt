use Rattle.std.proofs.Common.{◌≡◌, take}
use Rattle.pj_names.specs.JavaType.{type_list}
use Rattle.pj_names.proofs.ty.same_types.Given as goal

abbrev pub invariant-loop-i : goal.invariant-loop-i
invariant-loop-i l = type_list (take l.i l.ours) ≡ type_list (take l.i l.theirs)
