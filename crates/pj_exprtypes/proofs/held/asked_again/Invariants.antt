use Rattle.std.proofs.Common.{drop}
use Rattle.pj_names.specs.JavaType.{java_type}
use Rattle.pj_names.proofs.AskingLaws.{ComesTo}
use Rattle.pj_names.specs.Held.{again}
use Rattle.pj_exprtypes.proofs.held.asked_again.Given as goal

abbrev pub invariant-loop-name : goal.invariant-loop-name
invariant-loop-name g l =
    ComesTo (again (java_type l.fn.ty) l.fn.names) (g.O.Oracle.tells l.fn.oracle) (again (java_type l.ty) (drop l.name-index l.name-items)) (g.O.Oracle.tells l.oracle)
