use Rattle.std.proofs.Common.{◌≡◌, map, take}
use Rattle.serde_json.specs.View.{view}
use Rattle.pj_reports.specs.JsonData.{config_error_data}
use Rattle.pj_reports.proofs.json_form.config_error_values.Given as goal

abbrev pub invariant-loop-error : goal.invariant-loop-error
invariant-loop-error l = map view l.values.items ≡ map config_error_data (take l.error-index l.errors)
