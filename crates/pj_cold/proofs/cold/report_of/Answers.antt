use Rattle.std.proofs.Common.{◌∙◌, ap, map}
use Rattle.pj_rule_sets.specs.Rules.{EffectiveRule}
use Rattle.pj_cold.proofs.cold.report_of.Goals as goal

pub returns-clause-rules : goal.returns-clause-rules
returns-clause-rules c = c.in_ok-rules.ensures ∙ ap (map (λ (rule : EffectiveRule). rule.row)) (c.as_slice.ensures ∙ c.rules.ensures)

pub returns-clause-errors : goal.returns-clause-errors
returns-clause-errors c = c.in_ok-errors.ensures ∙ c.unusable.ensures
