use Rattle.std.proofs.Common.{◌+◌, ◌*◌, drop}
use Rattle.pj_names.specs.Asking.{each}
use Rattle.pj_names.specs.JavaType.{type_list}
use Rattle.pj_names.specs.Noting.{tells_noting}
use Rattle.pj_names.proofs.AskingLaws.{ComesTo}
use Rattle.pj_names.proofs.MeaningLaws.{gather}
use Rattle.pj_exprtypes.specs.Table.{Keeps}
use Rattle.pj_exprtypes.specs.TypeOf.{earlier, typed}
use Rattle.pj_exprtypes.proofs.Ranks.{rank}
use Rattle.pj_exprtypes.proofs.typing.+typing.Given as goal

-- A variable before another one counts 100,000,000 less, and a node within another one 20.

abbrev pub decreases-typed : goal.decreases-typed
decreases-typed g l = 100000000 * l.before + 20 * l.left + 10

abbrev pub decreases-by_operands : goal.decreases-by_operands
decreases-by_operands g l = 100000000 * l.before + 20 * l.left + 4

abbrev pub decreases-types_of : goal.decreases-types_of
decreases-types_of g l = 100000000 * l.before + 20 * l.left + 11

abbrev pub decreases-final_type : goal.decreases-final_type
decreases-final_type g l = 100000000 * l.before + 20 * l.left + 13

abbrev pub decreases-passed_type : goal.decreases-passed_type
decreases-passed_type g l = 100000000 * l.before + 20 * l.left + 12

abbrev pub decreases-once : goal.decreases-once
decreases-once g l = rank l.subject l.left + 5

abbrev pub decreases-found_once : goal.decreases-found_once
decreases-found_once g l = rank l.subject l.left + 4

abbrev pub decreases-noted_apart : goal.decreases-noted_apart
decreases-noted_apart g l = rank l.subject l.left + 3

abbrev pub decreases-noted_in : goal.decreases-noted_in
decreases-noted_in g l = rank l.subject l.left + 2

abbrev pub decreases-subject_type : goal.decreases-subject_type
decreases-subject_type g l = rank l.subject l.left + 1

abbrev pub decreases-var_type : goal.decreases-var_type
decreases-var_type g l = 100000000 * l.id.0 + 90000000

-- ---- the loop

abbrev pub invariant-types_of-loop-n : goal.invariant-types_of-loop-n
invariant-types_of-loop-n g l = record {
  comes :
      ComesTo (each (typed l.fn.file (earlier l.fn.file l.fn.before) l.fn.left) l.fn.nodes) (tells_noting l.fn.oracle.inner.ghost_name l.fn.oracle.noted.ghost_name l.fn.oracle.noted.now (g.O.Oracle.tells l.fn.oracle.inner.now))
      (gather (typed l.file (earlier l.file l.before) l.left) (type_list l.found) (drop l.n-index l.nodes)) (tells_noting l.oracle.inner.ghost_name l.oracle.noted.ghost_name l.oracle.noted.now (g.O.Oracle.tells l.oracle.inner.now));
  keeps : Keeps l.file (tells_noting l.oracle.inner.ghost_name l.oracle.noted.ghost_name l.oracle.noted.now (g.O.Oracle.tells l.oracle.inner.now)) l.types.entries;
}
