use Rattle.std.proofs.Common.{◌≡◌, ◌≤◌}
use Rattle.pj_names.specs.JavaType.{java_types, type_list}
use Rattle.pj_names.specs.declared.ty.Types.{size-Types}
use Rattle.pj_names.proofs.Arguments.{in_front}
use Rattle.pj_names.proofs.ty.+copied_types.Given as goal

abbrev pub decreases-Ty::copied : goal.decreases-Ty::copied
decreases-Ty::copied l = goal.size-Ty::copied l

abbrev pub decreases-Types::copied : goal.decreases-Types::copied
decreases-Types::copied l = goal.size-Types::copied l

abbrev pub invariant-Types::copied-arguments : goal.invariant-Types::copied-arguments
invariant-Types::copied-arguments l = (size-Types l.rest ≤ size-Types l.fn.self) × (in_front (type_list l.copies) (java_types l.rest) ≡ java_types l.fn.self)
