use Rattle.std.proofs.Common.{subst}
use Rattle.pj_rule_sets.specs.Expressions.{IsParsed, names_of}
use Rattle.pj_rule_sets.specs.Rules.{EffectiveRule, texts_of}
use Rattle.pj_rule_sets.proofs.Told.{kept_there}
use Rattle.pj_rule_sets.proofs.rule.Rule.query.Goals as goal

pub returns : goal.returns
returns c =
    subst (λ (rule : EffectiveRule). IsParsed (names_of (texts_of rule)) rule.xpath c.deref.result.now.query.expr) c.self.view_is
    (kept_there c.deref.ensures c.self.invariant.expressions_of).query.parsed
