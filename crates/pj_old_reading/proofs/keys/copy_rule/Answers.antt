use Rattle.std.proofs.lemmas.Result.{err_from_is_err_and}
use Rattle.pj_old_format.specs.ListKeys.{all_tested, rule, rule_tests}
use Rattle.pj_old_reading.specs.Copied.{lists}
use Rattle.pj_old_reading.proofs.Copies.{copies_then, followed_fails}
use Rattle.pj_old_reading.proofs.keys.copy_rule.Goals as goal

pub returns-in_err-behind : goal.returns-in_err-behind
unfolding rule
returns-in_err-behind c =
    let p = err_from_is_err_and c.from_residual.result c.from_residual.ensures.1 in
    let e = c.in_err-behind.field-0.0 in
    rw (p.1, p.2) (followed_fails e (all_tested rule_tests) lists c.args.bytes.now c.args.at c.in_err-behind.ensures)

pub returns : goal.returns
unfolding rule
returns c =
    copies_then (all_tested rule_tests) lists c.args.bytes.now c.args.at c.in_ok-behind.behind c.args.copy.now.items c.copy_words.new.copy.items c.copy_lists.new.copy.items c.copy_lists.result c.in_ok-behind.ensures c.copy_lists.ensures
