use Rattle.std.proofs.Common.{drop}
use Rattle.pj_names.specs.Asking.{each}
use Rattle.pj_names.proofs.AskingLaws.{ComesTo}
use Rattle.pj_names.proofs.MeaningLaws.{gather}
use Rattle.pj_file_oracle.specs.Members.{field_of}
use Rattle.pj_file_oracle.proofs.fields.listed_fields.Given as goal

abbrev pub invariant-loop-declarator : goal.invariant-loop-declarator
invariant-loop-declarator g l =
    ComesTo (each (field_of l.fn.file l.fn.declaration) l.fn.declarators) (g.O.Oracle.tells l.fn.oracle)
    (gather (field_of l.file l.declaration) l.fields (drop l.declarator-index l.declarators)) (g.O.Oracle.tells l.oracle)
