use Rattle.std.proofs.Common.{List}
use Rattle.pj_names.proofs.AskingLaws.{ComesTo}
use Rattle.pj_names.specs.ClassName.{Name}
use Rattle.pj_types.proofs.NameSearchLaws.{was_hit}
use Rattle.pj_types.proofs.NameTurns.{to_come}
use Rattle.pj_type_tests.specs.Types.{class_is}
use Rattle.pj_type_tests.proofs.AlongNames.{called}
use Rattle.pj_type_tests.proofs.classes.class_is.Given as goal

abbrev pub invariant-loop-class : goal.invariant-loop-class
invariant-loop-class g l =
    (given : List Name) × ComesTo (class_is l.fn.text l.fn.lower) (g.O.Oracle.tells l.fn.oracle) (to_come (called l.text) was_hit l._class given l.walk) (g.O.Oracle.tells l.oracle)
