use Rattle.std.proofs.Common.{drop}
use Rattle.pj_names.specs.Asking.{each}
use Rattle.pj_names.proofs.AskingLaws.{ComesTo}
use Rattle.pj_names.specs.JavaType.{type_list}
use Rattle.pj_names.proofs.MeaningLaws.{gather}
use Rattle.pj_file_oracle.specs.Supertypes.{supertype}
use Rattle.pj_file_oracle.proofs.supertypes.listed_supertypes.Given as goal

abbrev pub invariant-loop-n : goal.invariant-loop-n
invariant-loop-n g l =
    ComesTo (each (supertype l.fn.file l.fn.busy) l.fn.nodes) (g.O.Oracle.tells l.fn.oracle)
    (gather (supertype l.file l.busy) (type_list l.types) (drop l.n-index l.nodes)) (g.O.Oracle.tells l.oracle)
