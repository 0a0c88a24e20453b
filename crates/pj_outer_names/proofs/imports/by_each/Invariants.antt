use Rattle.std.proofs.Common.{drop}
use Rattle.pj_names.specs.Asking.{each}
use Rattle.pj_names.proofs.AskingLaws.{ComesTo}
use Rattle.pj_names.proofs.MeaningLaws.{gather}
use Rattle.pj_outer_names.specs.Candidates.{file_classes}
use Rattle.pj_outer_names.specs.Imports.{by_import}
use Rattle.pj_outer_names.proofs.imports.by_each.Given as goal

abbrev pub invariant-loop-import : goal.invariant-loop-import
invariant-loop-import g l =
    ComesTo (each (by_import l.fn.file (file_classes l.fn.file) l.fn.simple) l.fn.imports) (g.O.Oracle.tells l.fn.oracle)
    (gather (by_import l.file (file_classes l.file) l.simple) l.hits (drop l.import-index l.imports)) (g.O.Oracle.tells l.oracle)
