use Rattle.std.proofs.Common.{◌≡◌, ◌∙◌, None, Some, ap, sym, refl, subst}
use Rattle.std.specs.Option.{option_copied}
use Rattle.pj_rule_sets.specs.Lists.{named, put}
use Rattle.pj_rules.specs.Referring.{CannotChangeEntry, IsTakenFault}
use Rattle.pj_rules.specs.Refusals.{IfOwn}
use Rattle.pj_rules.specs.declared.fault.RuleWhat.TheVariants.{MissingRef}
use Rattle.pj_rules.proofs.Definitions.{At, adds_taken, handed_on}
use Rattle.pj_rules.proofs.Refusing.{own_weaker}
use Rattle.pj_rules.proofs.TakeFacts.{cannot_take, misses_one, takes_one}
use Rattle.pj_rules.proofs.taking.take_one.Goals as goal

pub returns-in-None-clause-fault : goal.returns-in-None-clause-fault
returns-in-None-clause-fault c =
    let path = c.args.path.now in
    let old = c.args.progress.now in
    let referral = c.args.referral in
    let list = c.args.list.now in
    let none : named c.args.name list ≡ None = subst (λ n. named n list ≡ None) c.as_str.ensures (sym c.named.ensures ∙ ap option_copied c.in-None.is) in
    own_weaker c.refused.result (At path (λ w. w ≡ MissingRef referral.reference)) (IsTakenFault path old referral list)
    (λ fault h files is_top open_ rule_set other leads has.
    misses_one files path rule_set old referral is_top open_ other c.args.name list fault c.requires leads has none h) c.refused.ensures

pub returns-in_err-entry-in-Some-clause-fault : goal.returns-in_err-entry-in-Some-clause-fault
returns-in_err-entry-in-Some-clause-fault c =
    let path = c.args.path.now in
    let old = c.args.progress.now in
    let referral = c.args.referral in
    let list = c.args.list.now in
    let taken = c.in-Some.old.now in
    let found : named c.args.name list ≡ Some taken = subst (λ n. named n list ≡ Some taken) c.as_str.ensures (sym c.named.ensures ∙ ap option_copied c.in-Some.is) in
    let r = c.in_err-entry-in-Some.field-0.0 in
    handed_on c.from_residual-in_err-entry-in-Some.result r (IfOwn (IsTakenFault path old referral list)) c.from_residual-in_err-entry-in-Some.ensures.1
    (own_weaker r (CannotChangeEntry path referral.rule taken.1) (IsTakenFault path old referral list)
    (λ fault h files is_top open_ rule_set other leads has.
    cannot_take files path rule_set old referral is_top open_ other c.args.name list taken fault c.requires leads has found h) c.in_err-entry-in-Some.ensures.fault)

pub returns-in_ok-put-in-Some-clause-adds : goal.returns-in_ok-put-in-Some-clause-adds
returns-in_ok-put-in-Some-clause-adds c = λ files rule_set other leads has.
    let path = c.args.path.now in
    let old = c.args.progress.now in
    let referral = c.args.referral in
    let list = c.args.list.now in
    let taken = c.in-Some.old.now in
    let entry = c.in_ok-entry-in-Some.entry in
    let found : named c.args.name list ≡ Some taken = subst (λ n. named n list ≡ Some taken) c.as_str.ensures (sym c.named.ensures ∙ ap option_copied c.in-Some.is) in
    adds_taken files path rule_set referral.rule old _ (taken.0, entry)
    (takes_one files path rule_set old referral other c.args.name list taken entry c.requires leads has found c.in_ok-entry-in-Some.ensures.entry)
    refl (c.in_ok-put-in-Some.ensures.put ∙ ap (λ o. put old.list (o, entry)) c.in_ok-origin-in-Some.ensures)
