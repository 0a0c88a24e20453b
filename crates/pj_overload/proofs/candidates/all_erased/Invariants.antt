use Rattle.std.proofs.Common.{◌≡◌, take}
use Rattle.pj_names.specs.JavaType.{type_list}
use Rattle.pj_overload.specs.Candidates.{all_erased}
use Rattle.pj_overload.proofs.candidates.all_erased.Given as goal

abbrev pub invariant-loop-ty : goal.invariant-loop-ty
invariant-loop-ty l = type_list l.made ≡ all_erased (type_list (take l.ty-index l.ty-items))
