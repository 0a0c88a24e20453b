use Rattle.std.proofs.Common.{◌≡◌, ◌++◌, drop}
use Rattle.pj_names.specs.JavaType.{type_list}
use Rattle.pj_types.specs.Members.{method_view}
use Rattle.pj_members.specs.Methods.{key_of, parameters_text}
use Rattle.pj_members.proofs.methods.key_of.Given as goal

abbrev pub invariant-loop-ty : goal.invariant-loop-ty
invariant-loop-ty l = l.key ++ parameters_text (type_list (drop l.ty-index l.ty-items)) ≡ key_of (method_view l.method)
