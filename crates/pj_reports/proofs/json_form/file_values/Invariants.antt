use Rattle.std.proofs.Common.{◌≡◌, map, take}
use Rattle.serde_json.specs.View.{view}
use Rattle.pj_reports.specs.JsonData.{files_data, shows}
use Rattle.pj_reports.proofs.json_form.file_values.Given as goal

abbrev pub invariant-loop-path : goal.invariant-loop-path
invariant-loop-path l = map view l.values.items ≡ files_data l.rules (shows l.suppressed) (take l.path-index l.files)
