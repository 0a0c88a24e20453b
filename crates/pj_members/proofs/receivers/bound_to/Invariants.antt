use Rattle.std.proofs.Common.{◌≡◌, map, take}
use Rattle.pj_names.specs.JavaType.{bound_types, type_list}
use Rattle.pj_members.proofs.receivers.bound_to.Given as goal

abbrev pub invariant-loop-pair : goal.invariant-loop-pair
invariant-loop-pair l = type_list l.types ≡ map (λ pair. pair.1) (bound_types (take l.pair-index l.pair-items))
