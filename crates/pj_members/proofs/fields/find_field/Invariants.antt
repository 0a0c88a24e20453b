use Rattle.pj_names.proofs.AskingLaws.{ComesTo}
use Rattle.pj_types.proofs.AlongTurns.{first_rest}
use Rattle.pj_types.specs.Standing.{standing}
use Rattle.pj_members.specs.Fields.{field_in, find_field}
use Rattle.pj_members.proofs.fields.find_field.Given as goal

abbrev pub invariant-loop-class : goal.invariant-loop-class
invariant-loop-class g l =
    ComesTo (find_field l.fn.class l.fn.name) (g.O.Oracle.tells l.fn.oracle) (first_rest (field_in l.class l.name) l._class (standing l.walk)) (g.O.Oracle.tells l.oracle)
