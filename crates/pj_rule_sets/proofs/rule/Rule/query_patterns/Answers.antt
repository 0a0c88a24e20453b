use Rattle.std.proofs.Common.{subst}
use Rattle.pj_rule_sets.specs.Kept.{ArePatternsOf}
use Rattle.pj_rule_sets.specs.Rules.{EffectiveRule, texts_of}
use Rattle.pj_rule_sets.proofs.Told.{kept_there}
use Rattle.pj_rule_sets.proofs.rule.Rule.query_patterns.Goals as goal

pub returns : goal.returns
returns c =
    let query = c.deref.result.now.query in
    let told = (kept_there c.deref.ensures c.self.invariant.expressions_of).query in
    subst (λ (rule : EffectiveRule). ArePatternsOf (texts_of rule) rule.xpath query.patterns) c.self.view_is
    (record { expr = query.expr; parsed = told.parsed; are = told.patterns })
