-- The expressions of a rule, with its variables and patterns.
use Rattle.std.specs.Prelude.{⊤, ◌≡◌, List, [], ◌++◌, map, Option, Some, None}
use Rattle.std.specs.List.{flat_map}
use Rattle.std.specs.Str.{chars}
use Rattle.pj_rule_texts.specs.Seen.{variables_seen}
use Rattle.pj_rule_texts.specs.Values.{Text, variable_of}
use Rattle.pj_rule_texts.specs.declared.rule.RuleTexts.{RuleTexts}
use Rattle.pj_rule_sets.specs.Patterns.{is_covered, property_patterns, suppression_of, suppressing_regex_of, whole_of}
use Rattle.pj_rule_sets.specs.declared.expressions.RuleExpressions.{RuleExpressions}
use Rattle.pj_rule_sets.specs.declared.spelled.Spelled.{Spelled}
use Rattle.pj_xexpressions.specs.Trees.{tree_of}
use Rattle.pj_xparse.specs.Spells.{Spells}
use Rattle.pj_xpatterns.specs.Meaning.{Pattern, has}
use Rattle.pj_xpatterns.specs.Refusing.{AreTaken}
use Rattle.pj_xpatterns.specs.Written.{Variables, patterns_in}
use Rattle.pj_xexpressions.specs.Expressions.{IsExpression}
use Rattle.pj_xexpressions.specs.declared.expr.Expr.{Expr}

-- each property is a variable of both expressions, but those that need no type
abbrev pub variables_of : RuleTexts → Variables
variables_of texts = flat_map variable_of texts.properties

abbrev pub names_of : RuleTexts → List Text
names_of texts = map (λ variable. variable.0) (variables_of texts)

-- both are there with this fact between them, or none is
abbrev pub Both : {A B : Type 0} → Option A → Option B → (A → B → Type 0) → Type 0
Both None None fact = ⊤
Both (Some a) (Some b) fact = fact a b
Both _ _ fact = ⊥

abbrev pub patterns_in_some : Variables → Option Expr → List Pattern
patterns_in_some variables None = []
patterns_in_some variables (Some expr) = patterns_in variables expr

-- the patterns of a rule with these expressions, in the order in which they are judged
abbrev pub patterns_of : RuleTexts → Expr → Option Expr → List Pattern
patterns_of texts query suppression = property_patterns texts ++ (patterns_in (variables_of texts) query
    ++ (patterns_in_some (variables_of texts) suppression ++ whole_of (suppressing_regex_of texts)))

-- The text spells the expression, with these variables.
pub record IsSpelledBy (names : List Text) (text : Text) (expr : Expr) : Type 0 where
  pub spells : Spells names (chars text) (tree_of expr)

-- The expressions that the rule's texts spell: its query, and what suppresses findings, where the rule has that.
pub record Spell (texts : RuleTexts) (query : Expr) (suppression : Option Expr) : Type 0 where
  pub query_spelled : IsSpelledBy (names_of texts) texts.xpath query
  pub suppression_spelled : Both (suppression_of texts) suppression (IsSpelledBy (names_of texts))

-- A rule can be used where its texts spell expressions and its patterns are patterns.
pub record IsSound (texts : RuleTexts) : Type 0 where
  pub query : Expr
  pub suppression : Option Expr
  pub spell : Spell texts query suppression
  pub taken : AreTaken (patterns_of texts query suppression)

-- What the text spells, as calls of expressions want it.
pub record IsParsed (names : List Text) (text : Text) (expr : Expr) : Type 0 where
  pub spells : IsSpelledBy names text expr
  pub expression : IsExpression names expr

-- These are the patterns of the expression.
abbrev pub HasPatterns : Variables → Spelled → Type 0
HasPatterns variables spelled = (pattern : Pattern) → has spelled.patterns pattern ≡ has (patterns_in variables spelled.expr) pattern

-- the expression, with its patterns
abbrev pub IsSpelled : Variables → Expr → Spelled → Type 0
IsSpelled variables expr spelled = (spelled.expr ≡ expr) × HasPatterns variables spelled

-- What is kept of an expression: what the text spells, and its patterns.
pub record IsKept (texts : RuleTexts) (text : Text) (spelled : Spelled) : Type 0 where
  pub parsed : IsParsed (names_of texts) text spelled.expr
  pub patterns : HasPatterns (variables_of texts) spelled

-- What is kept of a rule beside its texts.
pub record AreOf (texts : RuleTexts) (kept : RuleExpressions) : Type 0 where
  pub query : IsKept texts texts.xpath kept.query
  pub suppression : Both (suppression_of texts) kept.suppression (IsKept texts)
  pub variables : variables_seen kept.variables ≡ variables_of texts
  pub covers : kept.is_covered ≡ is_covered texts
