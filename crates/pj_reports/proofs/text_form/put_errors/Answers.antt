use Rattle.std.proofs.Common.{◌∙◌, ◌++◌, ap, append_assoc, flat_map, sym, take}
use Rattle.pj_reports.specs.ReportText.{fault_line}
use Rattle.pj_reports.specs.Shown.{Bytes, PathError, errors, errors_of}
use Rattle.pj_reports.proofs.ShownFacts.{errors-next}
use Rattle.pj_reports.proofs.text_form.put_errors.Goals as goal

pub loop-path-preserved : goal.loop-path-preserved
loop-path-preserved c =
    let line : PathError → Bytes = λ error. fault_line error.path error.message in
    let file = c.loop-path-item.result in
    let next = errors-next line c.args.files.now c.loop-path.path-index file c.loop-path-test.true (sym c.loop-path-item.is) in
    let before = flat_map line (errors (take c.loop-path.path-index c.args.files.now)) in
    let more = flat_map line (errors_of file.0 file.1) in
    c.in_ok-put_file_errors.ensures ∙ ap (λ t. t ++ more) c.loop-path.invariant ∙ append_assoc c.args.text.now before more
    ∙ ap (λ t. c.args.text.now ++ t) (sym next)
