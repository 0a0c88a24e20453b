use Rattle.std.proofs.Common.{drop}
use Rattle.pj_names.proofs.AskingLaws.{ComesTo}
use Rattle.pj_names.specs.JavaType.{type_list}
use Rattle.pj_overload.specs.Phases.{all_fit}
use Rattle.pj_overload.specs.Seen.{arguments_seen}
use Rattle.pj_overload.proofs.applicable.all_fit.Given as goal

abbrev pub invariant-loop-place : goal.invariant-loop-place
invariant-loop-place g l =
    ComesTo (all_fit l.phase (arguments_seen l.fn.arguments) (type_list l.fn.parameters)) (g.O.Oracle.tells l.fn.oracle)
    (all_fit l.phase (arguments_seen (drop l.place l.arguments)) (type_list (drop l.place l.parameters))) (g.O.Oracle.tells l.oracle)
