use Rattle.std.proofs.Common.{drop}
use Rattle.pj_names.specs.Asking.{each}
use Rattle.pj_names.proofs.AskingLaws.{ComesTo}
use Rattle.pj_names.proofs.MeaningLaws.{gather}
use Rattle.pj_written.specs.Seen.{all_parameters}
use Rattle.pj_file_oracle.specs.Types.{parameter_of}
use Rattle.pj_file_oracle.proofs.types.listed_parameters.Given as goal

abbrev pub invariant-loop-n : goal.invariant-loop-n
invariant-loop-n g l =
    ComesTo (each (parameter_of l.fn.file l.fn.busy) l.fn.nodes) (g.O.Oracle.tells l.fn.oracle)
    (gather (parameter_of l.file l.busy) (all_parameters l.parameters) (drop l.n-index l.nodes)) (g.O.Oracle.tells l.oracle)
