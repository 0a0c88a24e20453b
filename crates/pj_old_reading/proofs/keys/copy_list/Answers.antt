use Rattle.std.proofs.Common.{refl, sym, ◌∙◌}
use Rattle.std.proofs.lemmas.Result.{err_from_is_err_and}
use Rattle.std.specs.Prelude.{map}
use Rattle.pj_old_format.specs.ListKeys.{all_tested, value_of}
use Rattle.pj_old_reading.specs.Copied.{test_of}
use Rattle.pj_old_reading.proofs.Copies.{listed_copies, listed_fails, listed_wrong}
use Rattle.pj_old_reading.proofs.keys.copy_list.Goals as goal

pub returns-in_err-digits : goal.returns-in_err-digits
returns-in_err-digits c =
    let p = err_from_is_err_and c.from_residual.result c.from_residual.ensures.1 in
    let e = c.in_err-digits.field-0.0 in
    rw (p.1, p.2) (listed_fails e (all_tested (map test_of c.args.tests.now)) c.args.bytes.now c.args.at c.in_err-digits.ensures)

pub returns-then-not-is_right : goal.returns-then-not-is_right
returns-then-not-is_right c =
    rw c.wrong.ensures (listed_wrong (all_tested (map test_of c.args.tests.now)) c.args.bytes.now c.args.at c.in_ok-digits.from c.in_ok-digits.digits.now c.in_ok-digits.ensures (sym c.is_number-is_right.ensures ∙ c.if-not-is_right.true))

pub copy_counted-requires-clause-number : goal.copy_counted-requires-clause-number
copy_counted-requires-clause-number c = sym c.is_number-is_right.ensures ∙ c.if-not-is_right.false

pub returns : goal.returns
returns c =
    listed_copies (all_tested (map test_of c.args.tests.now)) c.args.bytes.now c.args.at c.in_ok-digits.from (value_of c.in_ok-digits.digits.now) c.in_ok-digits.digits.now c.args.copy.now.items c.put.new.copy.items c.copy_counted.new.copy.items c.copy_counted.result c.in_ok-digits.ensures
    (sym c.is_number-is_right.ensures ∙ c.if-not-is_right.false) c.in_ok-put.ensures.put refl c.copy_counted.ensures
