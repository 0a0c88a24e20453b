use Rattle.std.proofs.Common.{◌≡◌, ◌∙◌, ◌++◌, ◌∷◌, [], true, false, ap, subst}
use Rattle.pj_rule_sets.specs.Lists.{defined_in, is_among, put}
use Rattle.pj_rule_sets.proofs.Keys.{put_new}
use Rattle.pj_rules.specs.Defining.{IsDefinitionFault}
use Rattle.pj_rules.specs.Refusals.{IfOwn}
use Rattle.pj_rules.proofs.Definitions.{adds, handed_on, no_entry, not_there, same_name, there}
use Rattle.pj_rules.proofs.defining.define_named.Goals as goal

pub returns-then-not-is_new-clause-fault : goal.returns-then-not-is_new-clause-fault
returns-then-not-is_new-clause-fault c =
    let old = c.args.progress.now in
    let copy = c.in_ok-copied.field-0 in
    let among : is_among copy old.names ≡ true = there c.in_ok-is_new.is_new (is_among copy old.names) c.in_ok-is_new.ensures.was c.if-not-is_new.true in
    same_name c.args.path.now c.args.rule_set.now old c.args.rule c.requires.is_defined c.args.name c.requires.is_named c.refused.result
    (subst (λ n. is_among n old.names ≡ true) c.in_ok-copied.ensures among) c.refused.ensures

pub returns-in_err-entry-clause-fault : goal.returns-in_err-entry-clause-fault
returns-in_err-entry-clause-fault c =
    let path = c.args.path.now in
    let rule_set = c.args.rule_set.now in
    let old = c.args.progress.now in
    let rule = c.args.rule in
    let copy = c.in_ok-copied.field-0 in
    let fresh : is_among copy old.names ≡ false = not_there c.in_ok-is_new.is_new (is_among copy old.names) c.in_ok-is_new.ensures.was c.if-not-is_new.false in
    let r = c.in_err-entry.field-0.0 in
    handed_on c.from_residual-in_err-entry.result r (IfOwn (IsDefinitionFault path rule_set old rule)) c.from_residual-in_err-entry.ensures.1
    (no_entry path rule_set old rule c.requires.is_defined c.args.name c.requires.is_named r
    (subst (λ n. is_among n old.names ≡ false) c.in_ok-copied.ensures fresh) c.in_err-entry.ensures.fault)

pub returns-clause-adds : goal.returns-clause-adds
returns-clause-adds c = λ files.
    let path = c.args.path.now in
    let old = c.args.progress.now in
    let name = c.args.name in
    let copy = c.in_ok-copied.field-0 in
    let entry = c.in_ok-entry.entry in
    let fresh : is_among copy old.names ≡ false = not_there c.in_ok-is_new.is_new (is_among copy old.names) c.in_ok-is_new.ensures.was c.if-not-is_new.false in
    adds path c.args.rule_set.now old c.args.rule c.requires.is_defined name c.requires.is_named files entry _
    (subst (λ n. is_among n old.names ≡ false) c.in_ok-copied.ensures fresh) c.in_ok-entry.ensures.entry
    (c.in_ok-is_new.ensures.put ∙ put_new old.names copy fresh ∙ ap (λ n. old.names ++ n ∷ []) c.in_ok-copied.ensures)
    (c.in_ok-put.ensures.put ∙ ap (λ p. put old.list (defined_in p name, entry)) c.in_ok-copied-2.ensures)
