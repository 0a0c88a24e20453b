use Rattle.std.proofs.Common.{◌≡◌, length, map}
use Rattle.pj_names.specs.JavaType.{java_types, type_list}
use Rattle.pj_signatures.specs.Types.{arguments_of}
use Rattle.pj_written.specs.Types.{as_argument}
use Rattle.pj_written.proofs.Steps.{onto}
use Rattle.pj_written.proofs.types.arguments_of.Given as goal

abbrev pub invariant-loop-ty : goal.invariant-loop-ty
invariant-loop-ty l = onto (map as_argument (type_list l.left)) (java_types l.arguments) ≡ arguments_of (map as_argument (type_list l.fn.types))

abbrev pub decreases-loop-ty : goal.decreases-loop-ty
decreases-loop-ty l = length l.left
