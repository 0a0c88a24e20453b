use Rattle.std.proofs.Common.{◌≡◌, drop}
use Rattle.std.specs.Prelude.{None}
use Rattle.pj_carry.specs.Form.{are_errors_from}
use Rattle.pj_carrying.proofs.form.are_errors.Given as goal

abbrev pub invariant-loop-error : goal.invariant-loop-error
invariant-loop-error l = are_errors_from l.before (drop l.error-index l.errors) ≡ are_errors_from None l.errors
