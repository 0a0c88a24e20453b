use Rattle.std.proofs.Common.{◌≡◌, [], drop}
use Rattle.pj_carry.specs.Form.{with_error_rules}
use Rattle.pj_carrying.proofs.form.error_rules.Given as goal

abbrev pub invariant-loop-error : goal.invariant-loop-error
invariant-loop-error l = with_error_rules l.held.keys (drop l.error-index l.errors) ≡ with_error_rules [] l.errors
