-- What a rule means by its texts.
use Rattle.std.specs.Prelude.{◌≡◌, Bool, List, Option}
use Rattle.std.specs.List.{AllZip}
use Rattle.pj_rule_sets.specs.Expressions.{Spell, variables_of}
use Rattle.pj_rule_sets.specs.Active.{are_active}
use Rattle.pj_rule_sets.specs.Rules.{EffectiveRule, EffectiveRules, texts_of}
use Rattle.pj_rule_texts.specs.Values.{Text}
use Rattle.pj_rule_texts.specs.declared.rule.RuleTexts.{RuleTexts}
use Rattle.pj_xpatterns.specs.Meaning.{Pattern}
use Rattle.pj_xpatterns.specs.Written.{patterns_in}
use Rattle.pj_xexpressions.specs.declared.expr.Expr.{Expr}

-- A rule of a list of rules: its texts, the path patterns of its top ruleset, and the marker of comments. All that a rule means
-- is determined by these.
pub record Source : Type 0 where
  pub texts : RuleTexts
  pub exclude : List Text
  pub include : List Text
  pub marker : Text

-- what of a rule of a set with this marker determines its meaning: the number of its top ruleset does not
abbrev pub source_of : Text → EffectiveRule → Source
source_of marker rule = record { texts = texts_of rule; exclude = rule.exclude; include = rule.include; marker = marker }

-- A rule with the expressions that its texts spell.
pub record Rule : Type 0 where
  pub source : Source
  pub query : Expr
  pub suppression : Option Expr

-- ---- expressions

-- The expressions of the rule are those that its texts spell.
abbrev pub IsSpelled : Rule → Type 0
IsSpelled rule = Spell rule.source.texts rule.query rule.suppression

-- the patterns of an expression of the rule
abbrev pub patterns_of : Rule → Expr → List Pattern
patterns_of rule expr = patterns_in (variables_of rule.source.texts) expr

-- ---- for which files a rule is active

-- a rule is active unless an exclude pattern of its top ruleset matches the path and no include pattern does
abbrev pub is_active : Source → Text → Bool
is_active source path = are_active source.exclude source.include path

-- ---- the rules of a set

-- This is the rule of a set with this marker, with the expressions that its texts spell.
pub record IsRuleOf (marker : Text) (effective : EffectiveRule) (rule : Rule) : Type 0 where
  pub source : rule.source ≡ source_of marker effective
  pub spelled : IsSpelled rule

-- These are the rules of the set, in their order.
abbrev pub AreRulesOf : EffectiveRules → List Rule → Type 0
AreRulesOf set rules = AllZip (IsRuleOf set.marker) set.rules rules
