use Rattle.std.proofs.Common.{drop}
use Rattle.pj_names.specs.Asking.{first_hit}
use Rattle.pj_names.proofs.AskingLaws.{ComesTo}
use Rattle.pj_annotation_tests.specs.Annotations.{annotation_called}
use Rattle.pj_annotation_tests.proofs.annotations.first_called.Given as goal

abbrev pub invariant-loop-part : goal.invariant-loop-part
invariant-loop-part g l =
    ComesTo (first_hit (annotation_called l.fn.file l.fn.text) l.fn.parts) (g.O.Oracle.tells l.fn.oracle)
    (first_hit (annotation_called l.file l.text) (drop l.part-index l.parts)) (g.O.Oracle.tells l.oracle)
