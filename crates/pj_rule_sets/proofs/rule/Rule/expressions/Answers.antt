use Rattle.std.proofs.Common.{subst}
use Rattle.pj_rule_sets.specs.Expressions.{AreOf}
use Rattle.pj_rule_sets.specs.Rules.{EffectiveRule, texts_of}
use Rattle.pj_rule_sets.proofs.Told.{kept_there}
use Rattle.pj_rule_sets.proofs.rule.Rule.expressions.Goals as goal

pub returns : goal.returns
returns c =
    subst (λ (rule : EffectiveRule). AreOf (texts_of rule) c.deref.result.now) c.self.view_is (kept_there c.deref.ensures c.self.invariant.expressions_of)
