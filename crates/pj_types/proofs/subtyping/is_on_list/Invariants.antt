use Rattle.std.proofs.Common.{List}
use Rattle.pj_names.proofs.AskingLaws.{ComesTo}
use Rattle.pj_names.specs.ClassName.{Name}
use Rattle.pj_types.specs.Subtyping.{is_on_list}
use Rattle.pj_types.proofs.NameSearchLaws.{is_that, was_hit}
use Rattle.pj_types.proofs.NameTurns.{to_come}
use Rattle.pj_types.proofs.subtyping.is_on_list.Given as goal

abbrev pub invariant-loop-class : goal.invariant-loop-class
invariant-loop-class g l =
    (given : List Name) × ComesTo (is_on_list l.fn.lower l.fn.upper) (g.O.Oracle.tells l.fn.oracle) (to_come (is_that l.upper) was_hit l._class given l.walk) (g.O.Oracle.tells l.oracle)
