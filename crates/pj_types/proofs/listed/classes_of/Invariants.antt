use Rattle.std.proofs.Common.{◌≡◌, ◌++◌, ◌∷◌, drop}
use Rattle.pj_names.specs.JavaType.{java_type, type_list}
use Rattle.pj_types.specs.Supertypes.{classes_by}
use Rattle.pj_types.specs.Seen.{all_listed, written_by}
use Rattle.pj_types.proofs.listed.classes_of.Given as goal

abbrev pub invariant-loop-ty : goal.invariant-loop-ty
invariant-loop-ty l =
    classes_by (written_by l.writing) (java_type l.signature.superclass ∷ type_list l.signature.interfaces)
    ≡ all_listed l.classes ++ classes_by (written_by l.writing) (type_list (drop l.ty-index l.ty-items))
