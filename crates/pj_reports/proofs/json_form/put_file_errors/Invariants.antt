use Rattle.std.proofs.Common.{◌≡◌, ◌++◌, map, take}
use Rattle.serde_json.specs.View.{view}
use Rattle.pj_reports.specs.JsonData.{path_error_data}
use Rattle.pj_reports.specs.Shown.{PathError}
use Rattle.pj_reports.specs.declared.rows.FileError.{FileError}
use Rattle.pj_reports.proofs.json_form.put_file_errors.Given as goal

abbrev pub invariant-loop-error : goal.invariant-loop-error
invariant-loop-error l =
    let at : FileError → PathError = λ error. record { path = l.path; message = error.message } in
    map view l.values.items ≡ map view l.initial.values.items ++ map path_error_data (map at (take l.error-index l.error-items))
