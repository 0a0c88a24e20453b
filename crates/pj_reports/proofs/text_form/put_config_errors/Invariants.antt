use Rattle.std.proofs.Common.{◌≡◌, ◌++◌, flat_map, take}
use Rattle.pj_reports.specs.ReportText.{fault_line}
use Rattle.pj_reports.proofs.text_form.put_config_errors.Given as goal

abbrev pub invariant-loop-error : goal.invariant-loop-error
invariant-loop-error l = l.text ≡ l.initial.text ++ flat_map (λ error. fault_line error.rule error.message) (take l.error-index l.errors)
