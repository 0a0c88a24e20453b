use Rattle.std.proofs.Common.{Some, None, subst}
use Rattle.pj_rule_texts.specs.declared.rule.RuleTexts.{RuleTexts}
use Rattle.pj_rule_sets.specs.Rules.{EffectiveRule, texts_of}
use Rattle.pj_rule_sets.proofs.Told.{ArePatternsTold, patterns_told, kept_there}
use Rattle.pj_rule_sets.proofs.rule.Rule.suppression_patterns.Goals as goal

pub returns-in-Some : goal.returns-in-Some
returns-in-Some c =
    let texts : RuleTexts = record { row = c.self.inside.row; xpath = c.self.inside.xpath; properties = c.self.inside.properties } in
    subst (λ (rule : EffectiveRule). ArePatternsTold (texts_of rule) (Some c.in-Some.suppression)) c.self.view_is
    (subst (ArePatternsTold texts) c.in-Some.is (patterns_told texts c.deref.result.now (kept_there c.deref.ensures c.self.invariant.expressions_of)))

pub returns-in-None : goal.returns-in-None
returns-in-None c =
    let texts : RuleTexts = record { row = c.self.inside.row; xpath = c.self.inside.xpath; properties = c.self.inside.properties } in
    subst (λ (rule : EffectiveRule). ArePatternsTold (texts_of rule) None) c.self.view_is
    (subst (ArePatternsTold texts) c.in-None.is (patterns_told texts c.deref.result.now (kept_there c.deref.ensures c.self.invariant.expressions_of)))
