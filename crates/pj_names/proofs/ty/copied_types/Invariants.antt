use Rattle.std.proofs.Common.{◌≡◌, take}
use Rattle.pj_names.specs.JavaType.{type_list}
use Rattle.pj_names.proofs.ty.copied_types.Given as goal

abbrev pub invariant-loop-ty : goal.invariant-loop-ty
invariant-loop-ty l = type_list l.copy ≡ type_list (take l.ty-index l.ty-items)
