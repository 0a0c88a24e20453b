use Rattle.std.proofs.Common.{◌≡◌, ◌++◌, flat_map, take}
use Rattle.pj_reports.specs.ReportText.{fault_line}
use Rattle.pj_reports.specs.Shown.{errors}
use Rattle.pj_reports.proofs.text_form.put_errors.Given as goal

abbrev pub invariant-loop-path : goal.invariant-loop-path
invariant-loop-path l = l.text ≡ l.initial.text ++ flat_map (λ error. fault_line error.path error.message) (errors (take l.path-index l.files))
