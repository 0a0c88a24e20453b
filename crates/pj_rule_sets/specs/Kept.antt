-- What is kept of a rule beside what contracts see of it.
use Rattle.std.specs.Prelude.{◌≡◌, List}
use Rattle.pj_rule_sets.specs.Expressions.{AreOf, IsParsed, names_of, variables_of}
use Rattle.pj_rule_sets.specs.declared.expressions.RuleExpressions.{RuleExpressions}
use Rattle.pj_rule_texts.specs.Values.{Text}
use Rattle.pj_rule_texts.specs.declared.rule.RuleTexts.{RuleTexts}
use Rattle.pj_rule_sets.specs.declared.path_patterns.PathPatterns.{PathPatterns}
use Rattle.pj_xpatterns.specs.Meaning.{Pattern, has}
use Rattle.pj_xpatterns.specs.Written.{patterns_in}
use Rattle.pj_xexpressions.specs.declared.expr.Expr.{Expr}

-- The patterns are those of the expression that the text spells, with the variables of these texts.
pub record ArePatternsOf (texts : RuleTexts) (text : Text) (patterns : List Pattern) : Type 0 where
  pub expr : Expr
  pub parsed : IsParsed (names_of texts) text expr
  pub are : (pattern : Pattern) → has patterns pattern ≡ has (patterns_in (variables_of texts) expr) pattern

-- For a private clause: the expressions that the texts spell, and the patterns of these texts, each compiled once.
pub record IsKept (texts : RuleTexts) (exclude include : List Text) (expressions : RuleExpressions) (patterns : PathPatterns) : Type 0 where
  pub expressions_of : AreOf texts expressions
  pub exclude_patterns : patterns.exclude ≡ exclude
  pub include_patterns : patterns.include ≡ include
