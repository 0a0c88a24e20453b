use Rattle.std.proofs.Common.{List}
use Rattle.pj_names.proofs.AskingLaws.{ComesTo}
use Rattle.pj_types.specs.Supertypes.{Listed}
use Rattle.pj_members.specs.Receivers.{supertype_test, first_from, hit_of}
use Rattle.pj_members.specs.SupertypeWalks.{standing, supertype_view}
use Rattle.pj_members.proofs.SupertypeTurns.{to_come}
use Rattle.pj_members.proofs.receivers.first_supertype_from.Given as goal

abbrev pub invariant-loop-class : goal.invariant-loop-class
invariant-loop-class g l =
    (given : List Listed)
    × ComesTo (first_from (supertype_test l.fn.wanted) (supertype_view l.fn.head)) (g.O.Oracle.tells l.fn.oracle) (to_come (supertype_test l.wanted) hit_of l._class given (standing l.walk)) (g.O.Oracle.tells l.oracle)
