use Rattle.std.proofs.Common.{◌≡◌, ◌++◌, flat_map, map, take}
use Rattle.pj_reports.specs.ReportText.{fault_line}
use Rattle.pj_reports.specs.Shown.{PathError}
use Rattle.pj_reports.specs.declared.rows.FileError.{FileError}
use Rattle.pj_reports.proofs.text_form.put_file_errors.Given as goal

abbrev pub invariant-loop-error : goal.invariant-loop-error
invariant-loop-error l =
    let at : FileError → PathError = λ error. record { path = l.path; message = error.message } in
    l.text ≡ l.initial.text ++ flat_map (λ error. fault_line error.path error.message) (map at (take l.error-index l.error-items))
