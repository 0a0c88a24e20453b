use Rattle.std.proofs.Common.{◌≡◌, ◌∙◌, Err, Ok, ap, subst}
use Rattle.pj_rule_texts.specs.Rules.{Answers, new_name, overridden}
use Rattle.pj_rules.specs.Effective.{CannotChange, Changes}
use Rattle.pj_rules.specs.Refusals.{IfOwn, IsUnsound}
use Rattle.pj_rules.proofs.Definitions.{At, changed_unsound, is_made, is_refused, not_changed}
use Rattle.pj_rules.proofs.defining.changed_rule.Goals as goal

pub returns-in-Ok-clause-rule : goal.returns-in-Ok-clause-rule
returns-in-Ok-clause-rule c =
    let rule = c.args.rule in
    let is : overridden c.args.old.now rule ≡ Ok c.in-Ok.changed = subst (λ old. overridden old rule ≡ Ok c.in-Ok.changed) c.texts-texts.ensures.value c.in-Ok.ensures in
    is_made (Changes rule c.args.old.now) c.in-Ok.changed c.usable_after.result (Changes.changed is) c.usable_after.ensures.value c.usable_after.ensures.sound

pub returns-in-Ok-clause-fault : goal.returns-in-Ok-clause-fault
returns-in-Ok-clause-fault c =
    let path = c.args.path.now in
    let rule = c.args.rule in
    let old = c.args.old.now in
    let changed = c.in-Ok.changed in
    let is : overridden old rule ≡ Ok changed = subst (λ texts. overridden texts rule ≡ Ok changed) c.texts-texts.ensures.value c.in-Ok.ensures in
    is_refused (IfOwn (At path (IsUnsound changed))) (IfOwn (At path (CannotChange rule old))) c.usable_after.result
    (λ r h. changed_unsound path rule old changed r is h) c.usable_after.ensures.fault

pub returns-in-Err-clause-fault : goal.returns-in-Err-clause-fault
returns-in-Err-clause-fault c =
    let rule = c.args.rule in
    let fault = c.in-Err.fault in
    not_changed c.args.path.now rule c.args.old.now c.in_ok-name.name fault c.refused_texts.result
    (c.in_ok-name.ensures ∙ ap (λ texts. new_name texts rule) c.texts-texts.ensures.value)
    (subst (λ texts. Answers (overridden texts rule) (Err fault)) c.texts-texts.ensures.value c.in-Err.ensures) c.refused_texts.ensures
