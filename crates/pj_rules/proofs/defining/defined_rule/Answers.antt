use Rattle.std.proofs.Common.{◌∙◌, Err, sym, subst}
use Rattle.pj_rule_texts.specs.Rules.{Answers}
use Rattle.pj_rules.specs.Effective.{CannotDefine, Defines}
use Rattle.pj_rules.specs.Refusals.{IfOwn, IsUnsound}
use Rattle.pj_rules.proofs.Definitions.{At, defined_of, defined_unsound, is_made, is_refused, not_defined}
use Rattle.pj_rules.proofs.defining.defined_rule.Goals as goal

pub returns-in-Ok-clause-rule : goal.returns-in-Ok-clause-rule
returns-in-Ok-clause-rule c =
    let same = defined_of c.args.path.now c.args.rule_set.now c.args.name.now c.args.rule c.in_ok-copied.field-0 c.in_ok-copied-2.field-0 c.in_ok-copied.ensures c.in_ok-copied-2.ensures in
    is_made (Defines c.args.rule_set.now c.args.name.now c.args.rule) c.in-Ok.texts c.usable.result (Defines.defines (sym same ∙ c.in-Ok.ensures))
    c.usable.ensures.value c.usable.ensures.sound

pub returns-in-Ok-clause-fault : goal.returns-in-Ok-clause-fault
returns-in-Ok-clause-fault c =
    let path = c.args.path.now in
    let rule_set = c.args.rule_set.now in
    let name = c.args.name.now in
    let rule = c.args.rule in
    let texts = c.in-Ok.texts in
    let same = defined_of path rule_set name rule c.in_ok-copied.field-0 c.in_ok-copied-2.field-0 c.in_ok-copied.ensures c.in_ok-copied-2.ensures in
    is_refused (IfOwn (At path (IsUnsound texts))) (IfOwn (At path (CannotDefine rule_set name rule))) c.usable.result
    (λ r h. defined_unsound path rule_set name rule texts r (sym same ∙ c.in-Ok.ensures) h) c.usable.ensures.fault

pub returns-in_ok-copied-in-Err-clause-fault : goal.returns-in_ok-copied-in-Err-clause-fault
returns-in_ok-copied-in-Err-clause-fault c =
    let path = c.args.path.now in
    let rule_set = c.args.rule_set.now in
    let name = c.args.name.now in
    let rule = c.args.rule in
    let fault = c.in-Err.fault in
    let same = defined_of path rule_set name rule c.in_ok-copied.field-0 c.in_ok-copied-2.field-0 c.in_ok-copied.ensures c.in_ok-copied-2.ensures in
    not_defined path rule_set name rule c.in_ok-copied-in-Err.field-0 fault c.refused_texts.result c.in_ok-copied-in-Err.ensures
    (subst (λ meaning. Answers meaning (Err fault)) same c.in-Err.ensures) c.refused_texts.ensures
