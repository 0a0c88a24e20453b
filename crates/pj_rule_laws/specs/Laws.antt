-- Laws of what rulesets come to.
use Rattle.std.specs.Prelude.{◌≢◌, ◌⊎◌, ◌<◌, ℕ, List}
use Rattle.std.specs.List.{AllByRecursion}
use Rattle.pj_outside.specs.Files.{Files}
use Rattle.pj_rule_sets.specs.Expressions.{IsSound}
use Rattle.pj_rule_sets.specs.Faults.{IsFault}
use Rattle.pj_rule_sets.specs.Rules.{EffectiveRule, EffectiveRules}
use Rattle.pj_rule_sets.specs.declared.fault.ExpressionFault.{ExpressionFault}
use Rattle.pj_rule_sets.specs.declared.fault.ExpressionFault.TheVariants.{Memory}
use Rattle.pj_rule_texts.specs.Files.{IsRead}
use Rattle.pj_rule_texts.specs.Values.{Text}
use Rattle.pj_rule_texts.specs.declared.rule.RuleTexts.{RuleTexts}
use Rattle.pj_rule_texts.specs.declared.written.WrittenRuleset.{WrittenRuleset}
use Rattle.pj_rules.specs.Load.{IsEffective, IsFirstFault}
use Rattle.pj_rules.specs.declared.fault.RuleFault.{RuleFault}
use Rattle.pj_rule_laws.specs.Sizes.{AreShortParts, HasShortTexts}

-- The values of properties in a ruleset that is read are short.
abbrev pub ReadIsShort : Type 0
ReadIsShort = (files : Files) (path : Text) (written : WrittenRuleset) → IsRead files path written → AreShortParts written.parts

-- Short texts of a rule make one that can be used, or have a fault, which is not want of memory.
abbrev pub SoundOrSomeFault : Type 0
SoundOrSomeFault = (texts : RuleTexts) → HasShortTexts texts → IsSound texts ⊎ ((fault : ExpressionFault) × (fault ≢ Memory) × IsFault texts fault)

-- The files that are named come to rules, or they have a first fault.
abbrev pub RulesOrFirstFault : Type 0
RulesOrFirstFault = (files : Files) (paths : List Text) (minimum : ℕ) (marker : Text) →
    ((rules : EffectiveRules) × IsEffective files paths minimum marker rules) ⊎ ((fault : RuleFault) × IsFirstFault files paths fault)

-- a priority of PMD
abbrev pub IsPriority : ℕ → Type 0
IsPriority n = (0 < n) × (n < 6)

-- The rules that files come to have priorities from 1 to 5.
abbrev pub HavePriorities : Type 0
HavePriorities = (files : Files) (paths : List Text) (minimum : ℕ) (marker : Text) (rules : EffectiveRules) → IsEffective files paths minimum marker rules →
    AllByRecursion (λ (rule : EffectiveRule). IsPriority rule.row.priority) rules.rules
