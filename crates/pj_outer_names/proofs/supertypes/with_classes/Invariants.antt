use Rattle.std.proofs.Common.{◌≡◌, ◌++◌}
use Rattle.pj_names.specs.JavaType.{type_list}
use Rattle.pj_outer_names.specs.Inherited.{class_names}
use Rattle.pj_outer_names.proofs.supertypes.with_classes.Given as goal

abbrev pub invariant-loop-ty : goal.invariant-loop-ty
invariant-loop-ty l = l.names ++ class_names (type_list l.ty-iterator.rest.items) ≡ l.fn.names ++ class_names (type_list l.fn.types)
