use Rattle.std.proofs.lemmas.Result.{err_from_is_err_and}
use Rattle.pj_old_format.specs.ListKeys.{all_tested, list_key, listed, rule, word_tests}
use Rattle.pj_old_reading.proofs.Copies.{copies_then, followed_fails}
use Rattle.pj_old_reading.proofs.keys.copy_key.Goals as goal

pub returns-in_err-behind : goal.returns-in_err-behind
unfolding list_key
returns-in_err-behind c =
    let p = err_from_is_err_and c.from_residual.result c.from_residual.ensures.1 in
    let e = c.in_err-behind.field-0.0 in
    rw (p.1, p.2) (followed_fails e (all_tested word_tests) (listed rule) c.args.bytes.now c.args.at c.in_err-behind.ensures)

pub returns : goal.returns
unfolding list_key
returns c =
    copies_then (all_tested word_tests) (listed rule) c.args.bytes.now c.args.at c.in_ok-behind.behind c.args.copy.now.items c.copy_all.new.copy.items c.copy_rule_list.new.copy.items c.copy_rule_list.result c.in_ok-behind.ensures c.copy_rule_list.ensures
