use Rattle.std.proofs.Common.{drop}
use Rattle.pj_names.specs.Asking.{each}
use Rattle.pj_names.proofs.AskingLaws.{ComesTo}
use Rattle.pj_names.specs.JavaType.{type_list}
use Rattle.pj_names.proofs.MeaningLaws.{gather}
use Rattle.pj_file_oracle.specs.Members.{argument_of}
use Rattle.pj_file_oracle.proofs.methods.listed_arguments.Given as goal

abbrev pub invariant-loop-parameter : goal.invariant-loop-parameter
invariant-loop-parameter g l =
    ComesTo (each (argument_of l.fn.file) l.fn.parameters) (g.O.Oracle.tells l.fn.oracle)
    (gather (argument_of l.file) (type_list l.types) (drop l.parameter-index l.parameters)) (g.O.Oracle.tells l.oracle)
