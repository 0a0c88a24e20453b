use Rattle.std.proofs.Common.{◌≡◌}
use Rattle.pj_names.specs.JavaType.{java_type}
use Rattle.pj_written.specs.Types.{arrays}
use Rattle.pj_written.proofs.types.arrays.Given as goal

abbrev pub invariant-loop-dimension : goal.invariant-loop-dimension
invariant-loop-dimension l = java_type l.ty ≡ arrays l._dimension (java_type l.fn.member)
