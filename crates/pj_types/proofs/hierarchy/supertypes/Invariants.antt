use Rattle.pj_names.proofs.AskingLaws.{ComesTo}
use Rattle.pj_types.specs.Supertypes.{supertypes_of}
use Rattle.pj_types.proofs.NameSearchLaws.{names_found, no_class}
use Rattle.pj_types.proofs.NameTurns.{to_come}
use Rattle.pj_types.proofs.hierarchy.supertypes.Given as goal

abbrev pub invariant-loop-class : goal.invariant-loop-class
invariant-loop-class g l = ComesTo (supertypes_of l.fn.name) (g.O.Oracle.tells l.fn.oracle) (to_come no_class names_found l._class l.names l.walk) (g.O.Oracle.tells l.oracle)
