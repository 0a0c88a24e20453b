use Rattle.std.proofs.Common.{[], drop}
use Rattle.pj_names.proofs.AskingLaws.{ComesTo}
use Rattle.pj_names.specs.JavaType.{type_list}
use Rattle.pj_types.specs.Members.{all_methods}
use Rattle.pj_members.specs.Methods.{found_in}
use Rattle.pj_members.proofs.methods.found_in.Given as goal

abbrev pub invariant-loop-ty : goal.invariant-loop-ty
invariant-loop-ty g l =
    ComesTo (found_in l.fn.class l.fn.name [] (type_list l.fn.types)) (g.O.Oracle.tells l.fn.oracle)
    (found_in l.class l.name (all_methods l.found) (type_list (drop l.ty-index l.ty-items))) (g.O.Oracle.tells l.oracle)
