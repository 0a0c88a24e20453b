use Rattle.std.proofs.Common.{◌≡◌, length}
use Rattle.pj_names.specs.JavaType.{arguments_of, java_types, type_list}
use Rattle.pj_names.proofs.Arguments.{in_front}
use Rattle.pj_names.proofs.ty.Types.of.Given as goal

abbrev pub invariant-loop-last : goal.invariant-loop-last
invariant-loop-last l = in_front (type_list l.rest) (java_types l.made) ≡ arguments_of (type_list l.fn.list)

abbrev pub decreases-loop-last : goal.decreases-loop-last
decreases-loop-last l = length l.rest
