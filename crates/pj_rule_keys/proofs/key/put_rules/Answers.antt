use Rattle.std.proofs.Common.{◌+◌, take, subst}
use Rattle.std.specs.List.{All}
use Rattle.std.proofs.lemmas.List.Elements.{All-more}
use Rattle.pj_rule_keys.specs.Keys.{FitsTopKey}
use Rattle.pj_rule_keys.proofs.Written.{top_bytes, one_more}
use Rattle.pj_rule_keys.proofs.key.put_rules.Goals as goal

pub loop-rule-preserved : goal.loop-rule-preserved
loop-rule-preserved c =
    let xs = c.args.rules.now in
    let at = c.loop-rule.rule-index in
    let item = c.rule-item.result in
    let fit : All FitsTopKey (take (at + 1) xs) = All-more FitsTopKey xs at item c.loop-rule-test.true c.loop-rule.invariant.fit (subst FitsTopKey c.rule-item.is c.in_ok-put_top_rule.ensures.room) in
    let put = one_more top_bytes xs at item c.args.out.now.items c.loop-rule.out.items c.put_top_rule.new.out.items c.loop-rule-test.true c.rule-item.is c.loop-rule.invariant.put c.in_ok-put_top_rule.ensures.put in
    record { put = put; fit = fit }
