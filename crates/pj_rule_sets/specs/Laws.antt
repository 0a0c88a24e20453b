-- Laws of the definitions. Want of memory is no fault of the texts: it may come with any.
use Rattle.std.specs.Prelude.{◌≡◌, ◌≢◌}
use Rattle.pj_rule_sets.specs.Expressions.{IsSound}
use Rattle.pj_rule_sets.specs.Faults.{IsFault}
use Rattle.pj_rule_sets.specs.declared.fault.ExpressionFault.{ExpressionFault}
use Rattle.pj_rule_sets.specs.declared.fault.ExpressionFault.TheVariants.{Memory}
use Rattle.pj_rule_texts.specs.declared.rule.RuleTexts.{RuleTexts}

-- Texts of a rule that can be used have no fault.
abbrev pub SoundOrFault : Type 0
SoundOrFault = (texts : RuleTexts) (fault : ExpressionFault) → IsSound texts → IsFault texts fault → fault ≡ Memory

-- Texts of a rule have one first fault at most.
abbrev pub OneFault : Type 0
OneFault = (texts : RuleTexts) (a b : ExpressionFault) → IsFault texts a → IsFault texts b → a ≢ Memory → b ≢ Memory → a ≡ b
