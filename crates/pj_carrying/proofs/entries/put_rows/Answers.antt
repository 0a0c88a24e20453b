use Rattle.std.proofs.Common.{◌++◌, ◌∷◌, [], ◌∙◌}
use Rattle.pj_carrying.proofs.ByRule.{row_here}
use Rattle.pj_carrying.proofs.entries.put_rows.Goals as goal

pub returns : goal.returns
returns c =
    let rows = c.in_ok-rows.ensures ∙ row_here c.args.all.now c.args.rule c.index-all-rule.result c.requires c.index-all-rule.is in
    c.in_ok-push.ensures.ok ∙ (λ i. c.args.group.now ++ record { key = c.in_ok-key.ensures i; rows = rows i } ∷ [])
