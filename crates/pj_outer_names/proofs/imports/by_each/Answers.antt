use Rattle.std.proofs.Common.{◌∙◌, ap, subst, sym}
use Rattle.pj_names.specs.Asking.{each}
use Rattle.pj_names.proofs.AskingLaws.{ComesTo, comes-begin}
use Rattle.pj_names.proofs.MeaningLaws.{each-gather, gather}
use Rattle.pj_outer_names.specs.Candidates.{file_classes}
use Rattle.pj_outer_names.specs.Imports.{by_import}
use Rattle.pj_outer_names.proofs.imports.by_each.Goals as goal

pub loop-import-init : goal.loop-import-init
loop-import-init g c =
    let file = c.args.file.now in
    let f = by_import file (file_classes file) c.args.simple.now in
    let imports = c.args.imports.now in
    let t = g.O.Oracle.tells c.args.oracle.now in
    subst (λ m. ComesTo (each f imports) t m t) (each-gather f imports ∙ ap (λ front. gather f front imports) (sym c.new-hits.ensures)) comes-begin
