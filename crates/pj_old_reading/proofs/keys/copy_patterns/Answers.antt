use Rattle.std.proofs.lemmas.Result.{err_from_is_err_and}
use Rattle.pj_old_format.specs.ListKeys.{all_tested, listed, word_tests}
use Rattle.pj_old_reading.proofs.Copies.{copies_then, followed_fails}
use Rattle.pj_old_reading.proofs.keys.copy_patterns.Goals as goal

pub returns-in_err-behind : goal.returns-in_err-behind
returns-in_err-behind c =
    let p = err_from_is_err_and c.from_residual.result c.from_residual.ensures.1 in
    let e = c.in_err-behind.field-0.0 in
    rw (p.1, p.2) (followed_fails e (listed (all_tested word_tests)) (listed (all_tested word_tests)) c.args.bytes.now c.args.at c.in_err-behind.ensures)

pub returns : goal.returns
returns c =
    copies_then (listed (all_tested word_tests)) (listed (all_tested word_tests)) c.args.bytes.now c.args.at c.in_ok-behind.behind c.args.copy.now.items c.copy_list.new.copy.items c.copy_list-2.new.copy.items c.copy_list-2.result c.in_ok-behind.ensures c.copy_list-2.ensures
