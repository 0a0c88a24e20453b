use Rattle.std.proofs.Common.{drop}
use Rattle.pj_names.specs.Asking.{first_hit}
use Rattle.pj_names.proofs.AskingLaws.{ComesTo}
use Rattle.pj_calls.specs.Candidates.{of_import}
use Rattle.pj_calls.proofs.unqualified.by_each.Given as goal

abbrev pub invariant-loop-import : goal.invariant-loop-import
invariant-loop-import g l =
    ComesTo (first_hit (of_import l.fn.file l.fn.name) l.fn.imports) (g.O.Oracle.tells l.fn.oracle)
    (first_hit (of_import l.file l.name) (drop l.import-index l.imports)) (g.O.Oracle.tells l.oracle)
