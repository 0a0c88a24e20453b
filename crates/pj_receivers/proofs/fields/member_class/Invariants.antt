use Rattle.std.proofs.Common.{List}
use Rattle.pj_names.proofs.AskingLaws.{ComesTo}
use Rattle.pj_names.specs.ClassName.{Name}
use Rattle.pj_types.proofs.NameSearchLaws.{hit_found}
use Rattle.pj_types.proofs.NameTurns.{to_come}
use Rattle.pj_receivers.specs.Fields.{member_class, member_of_class}
use Rattle.pj_receivers.proofs.fields.member_class.Given as goal

abbrev pub invariant-loop-class : goal.invariant-loop-class
invariant-loop-class g l =
    (given : List Name) × ComesTo (member_class l.fn.file l.fn.class l.fn.name) (g.O.Oracle.tells l.fn.oracle) (to_come (member_of_class l.file l.name) hit_found l._class given l.walk) (g.O.Oracle.tells l.oracle)
