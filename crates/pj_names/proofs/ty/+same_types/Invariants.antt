use Rattle.std.proofs.Common.{◌≡◌, ◌↔◌, ◌≤◌}
use Rattle.pj_names.specs.JavaType.{java_types}
use Rattle.pj_names.specs.declared.ty.Types.{size-Types}
use Rattle.pj_names.proofs.ty.+same_types.Given as goal

abbrev pub decreases-Ty::is : goal.decreases-Ty::is
decreases-Ty::is l = goal.size-Ty::is l

abbrev pub decreases-Types::is : goal.decreases-Types::is
decreases-Types::is l = goal.size-Types::is l

abbrev pub invariant-Types::is-arguments : goal.invariant-Types::is-arguments
invariant-Types::is-arguments l = (size-Types l.ours ≤ size-Types l.fn.self) × ((java_types l.ours ≡ java_types l.theirs) ↔ (java_types l.fn.self ≡ java_types l.fn.other))
