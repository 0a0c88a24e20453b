use Rattle.std.proofs.Common.{drop}
use Rattle.pj_names.specs.Asking.{first_hit}
use Rattle.pj_names.proofs.AskingLaws.{ComesTo}
use Rattle.pj_scopes.specs.VariableName.{imported_field}
use Rattle.pj_scopes.proofs.fields.by_each.Given as goal

abbrev pub invariant-loop-import : goal.invariant-loop-import
invariant-loop-import g l =
    ComesTo (first_hit (imported_field l.fn.file l.fn.name) l.fn.imports) (g.O.Oracle.tells l.fn.oracle)
    (first_hit (imported_field l.file l.name) (drop l.import-index l.imports)) (g.O.Oracle.tells l.oracle)
