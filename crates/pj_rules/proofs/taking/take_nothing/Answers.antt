use Rattle.std.proofs.Common.{◌≡◌, ◌∙◌, true, false, ap, ap₂, sym, refl, subst}
use Rattle.pj_rule_sets.specs.Lists.{not_available, put, referred_in}
use Rattle.pj_rule_texts.specs.References.{is_from_elsewhere}
use Rattle.pj_rules.specs.Referring.{IsNothingFault, name_behind}
use Rattle.pj_rules.specs.declared.fault.RuleWhat.TheVariants.{MissingRef}
use Rattle.pj_rules.proofs.Definitions.{At, adds_taken}
use Rattle.pj_rules.proofs.Refusing.{own_weaker}
use Rattle.pj_rules.proofs.TakeFacts.{finds_nothing, takes_nothing}
use Rattle.pj_rules.proofs.taking.take_nothing.Goals as goal

pub returns-then-not-is_from_elsewhere-clause-fault : goal.returns-then-not-is_from_elsewhere-clause-fault
returns-then-not-is_from_elsewhere-clause-fault c =
    let path = c.args.path.now in
    let old = c.args.progress.now in
    let referral = c.args.referral in
    let not_elsewhere : is_from_elsewhere referral.target.file ≡ false =
    subst (λ f. is_from_elsewhere f ≡ false) c.as_str.ensures (sym c.is_from_elsewhere.ensures ∙ c.if-not-is_from_elsewhere.true) in
    own_weaker c.refused.result (At path (λ w. w ≡ MissingRef referral.reference)) (IsNothingFault path old referral)
    (λ fault h files is_top open_ rule_set leads. finds_nothing files path rule_set old referral is_top open_ fault leads not_elsewhere h) c.refused.ensures

pub returns-clause-adds : goal.returns-clause-adds
returns-clause-adds c = λ files rule_set leads.
    let path = c.args.path.now in
    let old = c.args.progress.now in
    let referral = c.args.referral in
    let name = name_behind referral.rule.name referral.target.name in
    let entry = c.in_ok-entry.entry in
    let elsewhere : is_from_elsewhere referral.target.file ≡ true =
    subst (λ f. is_from_elsewhere f ≡ true) c.as_str.ensures (sym c.is_from_elsewhere.ensures ∙ c.if-not-is_from_elsewhere.false) in
    adds_taken files path rule_set referral.rule old _ (referred_in path referral.reference, not_available name referral.reference)
    (takes_nothing files path rule_set old referral leads elsewhere) refl
    (c.in_ok-put.ensures.put ∙ ap₂ (λ p t. put old.list (referred_in p t, entry)) c.in_ok-copied.ensures c.in_ok-copied-2.ensures
    ∙ ap (λ e. put old.list (referred_in path referral.reference, e)) (c.in_ok-entry.ensures ∙ ap (λ n. not_available n referral.reference) c.name_behind.ensures))
