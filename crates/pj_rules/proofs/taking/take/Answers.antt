use Rattle.std.proofs.Common.{◌∙◌, ap, sym, refl}
use Rattle.pj_rule_sets.specs.Lists.{put_all, without}
use Rattle.pj_rules.proofs.Definitions.{adds_list}
use Rattle.pj_rules.proofs.TakeFacts.{takes_whole}
use Rattle.pj_rules.proofs.taking.take.Goals as goal

pub returns-in_ok-put_without-in-None-clause-adds : goal.returns-in_ok-put_without-in-None-clause-adds
returns-in_ok-put_without-in-None-clause-adds c = λ files rule_set other leads has.
    let old = c.args.progress.now in
    let referral = c.args.referral in
    let list = c.args.list.now in
    adds_list files c.args.path.now rule_set referral.rule old _ (without referral.rule.excludes list)
    (takes_whole files c.args.path.now rule_set old referral other list (sym c.in_ok-name.ensures ∙ c.in-None.is) leads has)
    refl (c.in_ok-put_without-in-None.ensures ∙ ap (λ excludes. put_all old.list (without excludes list)) c.as_slice.ensures)
