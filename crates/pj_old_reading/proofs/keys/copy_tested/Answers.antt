use Rattle.std.proofs.Common.{sym, ◌∙◌}
use Rattle.std.proofs.lemmas.Result.{err_from_is_err_and}
use Rattle.pj_old_reading.specs.Copied.{test_of}
use Rattle.pj_old_reading.proofs.Copies.{test_copies, test_fails, test_wrong}
use Rattle.pj_old_reading.proofs.keys.copy_tested.Goals as goal

pub returns-in_err-found : goal.returns-in_err-found
returns-in_err-found c =
    let p = err_from_is_err_and c.from_residual.result c.from_residual.ensures.1 in
    let e = c.in_err-found.field-0.0 in
    rw (p.1, p.2) (test_fails e (test_of c.args.test) c.args.bytes.now c.args.at c.in_err-found.ensures)

pub returns-then-not-is_right : goal.returns-then-not-is_right
returns-then-not-is_right c =
    rw c.wrong.ensures (test_wrong (test_of c.args.test) c.args.bytes.now c.args.at c.in_ok-found.behind c.in_ok-found.found.now c.in_ok-found.ensures (sym c.passes-is_right.ensures ∙ c.if-not-is_right.true))

pub returns : goal.returns
returns c =
    test_copies (test_of c.args.test) c.args.bytes.now c.args.at c.in_ok-found.behind c.in_ok-found.found.now c.args.copy.now.items c.put.new.copy.items c.in_ok-found.ensures (sym c.passes-is_right.ensures ∙ c.if-not-is_right.false) c.in_ok-put.ensures.put
