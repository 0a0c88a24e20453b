use Rattle.std.proofs.Common.{ℕ, ◌+◌, List, ◌++◌, take, ap, subst, ◌∙◌}
use Rattle.std.specs.List.{All}
use Rattle.std.proofs.lemmas.List.Elements.{All-more}
use Rattle.pj_rule_keys.specs.Keys.{HasRoom, spelled}
use Rattle.pj_rule_keys.proofs.Written.{one_more}
use Rattle.pj_rule_keys.proofs.put.put_texts.Goals as goal

pub loop-text-preserved : goal.loop-text-preserved
loop-text-preserved c =
    let xs = c.args.texts.now in
    let at = c.loop-text.text-index in
    let item = c.text-item.result in
    let here : HasRoom item = subst HasRoom c.as_str.ensures c.in_ok-put_text.ensures.room in
    let fit : All HasRoom (take (at + 1) xs) = All-more HasRoom xs at item c.loop-text-test.true c.loop-text.invariant.fit (subst HasRoom c.text-item.is here) in
    let put = one_more spelled xs at item c.args.out.now.items c.loop-text.out.items c.put_text.new.out.items c.loop-text-test.true c.text-item.is c.loop-text.invariant.put (c.in_ok-put_text.ensures.put ∙ ap (λ (t : List ℕ). c.loop-text.out.items ++ spelled t) c.as_str.ensures) in
    record { put = put; fit = fit }
