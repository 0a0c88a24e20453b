use Rattle.pj_names.proofs.AskingLaws.{ComesTo}
use Rattle.pj_members.specs.Receivers.{list_from, no_hit, second_of}
use Rattle.pj_members.specs.SupertypeWalks.{all_supertypes, standing, supertype_view}
use Rattle.pj_members.proofs.SupertypeTurns.{to_come}
use Rattle.pj_members.proofs.receiver_methods.list_from.Given as goal

abbrev pub invariant-loop-class : goal.invariant-loop-class
invariant-loop-class g l =
    ComesTo (list_from (supertype_view l.fn.head)) (g.O.Oracle.tells l.fn.oracle) (to_come no_hit second_of l._class (all_supertypes l.list) (standing l.walk)) (g.O.Oracle.tells l.oracle)
