use Rattle.std.proofs.Common.{◌≡◌, ◌++◌, ◌∷◌, drop}
use Rattle.pj_names.specs.JavaType.{java_type, type_list}
use Rattle.pj_types.specs.Seen.{seen_bindings}
use Rattle.pj_types.specs.Supertypes.{by_arguments, classes_by}
use Rattle.pj_members.specs.SupertypeWalks.{all_supertypes}
use Rattle.pj_members.proofs.supertypes.classes_of.Given as goal

abbrev pub invariant-loop-ty : goal.invariant-loop-ty
invariant-loop-ty l =
    classes_by (by_arguments (seen_bindings l.bindings)) (java_type l.signature.superclass ∷ type_list l.signature.interfaces)
    ≡ all_supertypes l.classes ++ classes_by (by_arguments (seen_bindings l.bindings)) (type_list (drop l.ty-index l.ty-items))
