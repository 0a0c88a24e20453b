use Rattle.std.proofs.Common.{◌≡◌, map, take}
use Rattle.serde_json.specs.View.{view}
use Rattle.pj_reports.specs.JsonData.{path_error_data}
use Rattle.pj_reports.specs.Shown.{errors}
use Rattle.pj_reports.proofs.json_form.path_error_values.Given as goal

abbrev pub invariant-loop-path : goal.invariant-loop-path
invariant-loop-path l = map view l.values.items ≡ map path_error_data (errors (take l.path-index l.files))
