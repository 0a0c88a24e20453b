use Rattle.std.proofs.Common.{◌≡◌, filter, map, take}
use Rattle.serde_json.specs.View.{view}
use Rattle.pj_reports.specs.JsonData.{shows, violation_data}
use Rattle.pj_reports.proofs.json_form.violation_values.Given as goal

abbrev pub invariant-loop-finding : goal.invariant-loop-finding
invariant-loop-finding l = map view l.values.items ≡ map (violation_data l.rules) (filter (shows l.suppressed) (take l.finding-index l.findings))
