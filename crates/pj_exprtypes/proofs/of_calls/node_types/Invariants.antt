use Rattle.std.proofs.Common.{drop}
use Rattle.pj_names.specs.Asking.{each}
use Rattle.pj_names.specs.JavaType.{type_list}
use Rattle.pj_names.proofs.AskingLaws.{ComesTo}
use Rattle.pj_names.proofs.MeaningLaws.{gather}
use Rattle.pj_exprtypes.specs.Table.{Keeps}
use Rattle.pj_exprtypes.specs.TypeOf.{type_of}
use Rattle.pj_exprtypes.proofs.of_calls.node_types.Given as goal

abbrev pub invariant-loop-n : goal.invariant-loop-n
invariant-loop-n g l = record {
  comes : ComesTo (each (type_of l.fn.file) l.fn.nodes) (g.O.Oracle.tells l.fn.oracle) (gather (type_of l.file) (type_list l.found) (drop l.n-index l.nodes)) (g.O.Oracle.tells l.oracle);
  keeps : Keeps l.file (g.O.Oracle.tells l.oracle) l.types.entries;
}
