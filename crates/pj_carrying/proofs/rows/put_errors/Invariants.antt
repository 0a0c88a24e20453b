use Rattle.std.proofs.Common.{◌≡◌, drop}
use Rattle.pj_carrying.specs.ByRule.{with_errors}
use Rattle.pj_carrying.proofs.rows.put_errors.Given as goal

abbrev pub invariant-loop-error : goal.invariant-loop-error
invariant-loop-error l = with_errors l.all.items (drop l.error-index l.errors) ≡ with_errors l.fn.all.items l.errors
