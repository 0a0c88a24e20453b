use Rattle.std.proofs.Common.{drop}
use Rattle.pj_names.proofs.AskingLaws.{ComesTo}
use Rattle.pj_names.specs.JavaType.{type_list}
use Rattle.pj_overload.specs.Specific.{all_under}
use Rattle.pj_overload.proofs.specific.all_under.Given as goal

abbrev pub invariant-loop-place : goal.invariant-loop-place
invariant-loop-place g l =
    ComesTo (all_under (type_list l.fn.lowers) (type_list l.fn.uppers)) (g.O.Oracle.tells l.fn.oracle)
    (all_under (type_list (drop l.place l.lowers)) (type_list (drop l.place l.uppers))) (g.O.Oracle.tells l.oracle)
