use Rattle.std.proofs.Common.{ap, ◌∙◌}
use Rattle.pj_rule_sets.specs.Expressions.{variables_of}
use Rattle.pj_rule_sets.specs.Rules.{EffectiveRule, texts_of}
use Rattle.pj_rule_sets.proofs.Told.{kept_there}
use Rattle.pj_rule_sets.proofs.rule.Rule.variables.Goals as goal

pub returns : goal.returns
returns c = (kept_there c.deref.ensures c.self.invariant.expressions_of).variables ∙ ap (λ (rule : EffectiveRule). variables_of (texts_of rule)) c.self.view_is
