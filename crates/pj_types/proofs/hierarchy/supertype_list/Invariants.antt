use Rattle.std.proofs.Common.{◌≡◌}
use Rattle.pj_names.proofs.AskingLaws.{ComesTo}
use Rattle.pj_names.specs.JavaType.{type_list}
use Rattle.pj_types.specs.Supertypes.{supertype_list}
use Rattle.pj_types.specs.Standing.{given_types, standing}
use Rattle.pj_types.proofs.Loops.{all_types}
use Rattle.pj_types.proofs.hierarchy.supertype_list.Given as goal

abbrev pub invariant-loop-class : goal.invariant-loop-class
invariant-loop-class g l = record {
  comes : ComesTo (supertype_list l.fn.name) (g.O.Oracle.tells l.fn.oracle) (all_types l._class (standing l.walk)) (g.O.Oracle.tells l.oracle);
  types : type_list l.types ≡ given_types l.walk;
}
