use Rattle.std.proofs.Common.{drop}
use Rattle.pj_names.specs.Asking.{each}
use Rattle.pj_names.proofs.AskingLaws.{ComesTo}
use Rattle.pj_names.specs.JavaType.{type_list}
use Rattle.pj_names.proofs.MeaningLaws.{gather}
use Rattle.pj_type_names.specs.TypeName.{written_bound}
use Rattle.pj_file_oracle.proofs.types.resolved_bounds.Given as goal

abbrev pub invariant-loop-bound : goal.invariant-loop-bound
invariant-loop-bound g l =
    ComesTo (each (written_bound l.fn.file l.fn.busy) l.fn.bounds) (g.O.Oracle.tells l.fn.oracle)
    (gather (written_bound l.file l.busy) (type_list l.types) (drop l.bound-index l.bounds)) (g.O.Oracle.tells l.oracle)
