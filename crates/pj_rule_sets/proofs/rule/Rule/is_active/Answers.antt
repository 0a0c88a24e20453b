use Rattle.std.proofs.Common.{Bool, IfOk, ◌≡◌, ap, ap₂, ◌∙◌, subst}
use Rattle.pj_rule_sets.specs.Active.{are_active, is_active}
use Rattle.pj_rule_sets.specs.Rules.{EffectiveRule}
use Rattle.pj_rule_sets.proofs.rule.Rule.is_active.Goals as goal

pub returns : goal.returns
returns c =
    let path = c.args.path.now in
    let same : are_active c.deref.result.now.exclude c.deref.result.now.include path ≡ is_active c.args.self.now path =
    ap₂ (λ exclude include. are_active exclude include path)
    (ap (λ patterns. patterns.exclude) c.deref.ensures ∙ c.self.invariant.exclude_patterns)
    (ap (λ patterns. patterns.include) c.deref.ensures ∙ c.self.invariant.include_patterns)
    ∙ ap (λ (rule : EffectiveRule). is_active rule path) c.self.view_is in
    subst (λ (active : Bool). IfOk c.are_active.result (λ found. found ≡ active)) same c.are_active.ensures
