-- The rules of a set.
use Rattle.std.specs.Prelude.{ℕ, List}
use Rattle.pj_names.specs.declared.rule_row.ConfigError.{ConfigError}
use Rattle.pj_names.specs.declared.rule_row.RuleRow.{RuleRow}
use Rattle.pj_rule_texts.specs.Values.{Text}
use Rattle.pj_rule_texts.specs.declared.properties.Property.{Property}
use Rattle.pj_rule_texts.specs.declared.rule.RuleTexts.{RuleTexts}

-- A rule that counts: the number of its top ruleset, its texts, and the path patterns of that ruleset.
pub record EffectiveRule : Type 0 where
  pub top : ℕ
  pub row : RuleRow
  pub xpath : Text
  pub properties : List Property
  pub exclude : List Text
  pub include : List Text

-- The rules that count, in order, with the configuration errors in the order in which the rulesets take them, and the marker.
pub record EffectiveRules : Type 0 where
  pub rules : List EffectiveRule
  pub unusable : List ConfigError
  pub marker : Text

-- the rule of these texts in a top ruleset of this number, with these path patterns
abbrev pub rule_of : ℕ → List Text → List Text → RuleTexts → EffectiveRule
rule_of number exclude include texts = record { top = number; row = texts.row; xpath = texts.xpath; properties = texts.properties; exclude = exclude; include = include }

-- the texts of a rule
abbrev pub texts_of : EffectiveRule → RuleTexts
texts_of rule = record { row = rule.row; xpath = rule.xpath; properties = rule.properties }
