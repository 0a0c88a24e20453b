use Rattle.std.proofs.Common.{◌≡◌, ◌∙◌, None, ap, sym, subst}
use Rattle.std.specs.Option.{option_map}
use Rattle.pj_rule_texts.specs.References.{reference_of}
use Rattle.pj_rules.specs.Referring.{IsNoForm, meant_by}
use Rattle.pj_rules.specs.declared.fault.RuleWhat.TheVariants.{MissingRef}
use Rattle.pj_rules.proofs.Definitions.{At}
use Rattle.pj_rules.proofs.Refusing.{own_weaker}
use Rattle.pj_rules.proofs.TakeFacts.{no_form}
use Rattle.pj_rules.proofs.referral.referral_of.Goals as goal

pub returns-in-None-clause-fault : goal.returns-in-None-clause-fault
returns-in-None-clause-fault c =
    let path = c.args.path.now in
    let rule = c.args.rule in
    let reference = c.args.reference in
    let none : reference_of reference ≡ None = subst (λ t. reference_of t ≡ None) c.as_str.ensures (sym c.in_ok-target.ensures ∙ ap (option_map meant_by) c.in-None.is) in
    own_weaker c.refused.result (At path (λ w. w ≡ MissingRef reference)) (IsNoForm path rule) (λ fault h. no_form path rule reference fault c.requires none h) c.refused.ensures
