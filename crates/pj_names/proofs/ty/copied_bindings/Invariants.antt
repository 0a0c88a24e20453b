use Rattle.std.proofs.Common.{◌≡◌, take}
use Rattle.pj_names.specs.JavaType.{bound_types}
use Rattle.pj_names.proofs.ty.copied_bindings.Given as goal

abbrev pub invariant-loop-name : goal.invariant-loop-name
invariant-loop-name l = bound_types l.copy ≡ bound_types (take l.name-index l.name-items)
