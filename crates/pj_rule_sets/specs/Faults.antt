-- Why a rule's texts make no rule that can be used.
use Rattle.std.specs.Prelude.{⊤, ◌≡◌, List, ◌∷◌, ◌++◌, Option, Some, None}
use Rattle.std.specs.Str.{chars}
use Rattle.pj_rule_texts.specs.Values.{Text}
use Rattle.pj_rule_texts.specs.declared.rule.RuleTexts.{RuleTexts}
use Rattle.pj_rule_sets.specs.Expressions.{IsSpelledBy, Spell, names_of, patterns_of}
use Rattle.pj_rule_sets.specs.Patterns.{suppression_of}
use Rattle.pj_rule_sets.specs.declared.fault.ExpressionFault.{ExpressionFault}
use Rattle.pj_rule_sets.specs.declared.fault.ExpressionFault.TheVariants.{XPath, Pattern, Memory}
use Rattle.pj_xparse.specs.Faults as syntax
use Rattle.pj_xparse.specs.declared.fault.XSyntax.{XSyntax}
use Rattle.pj_xpatterns.specs.Meaning as pattern
use Rattle.pj_xpatterns.specs.Meaning.{IsNoPattern}
use Rattle.pj_xpatterns.specs.declared.compiled.PatternFault.{PatternFault}
use Rattle.pj_xpatterns.specs.declared.compiled.PatternFault.TheVariants as patterns
use Rattle.pj_xexpressions.specs.declared.expr.Expr.{Expr}

-- One of the patterns is none.
pub record HasNoPattern (list : List pattern.Pattern) : Type 0 where
  pub before : List pattern.Pattern
  pub refused : pattern.Pattern
  pub behind : List pattern.Pattern
  pub stands : list ≡ before ++ refused ∷ behind
  pub is_none : IsNoPattern refused

-- a fact where a pattern is refused
abbrev pub IfNoPattern : PatternFault → Type 0 → Type 0
IfNoPattern (patterns.Refused text) fact = fact
IfNoPattern patterns.Memory fact = ⊤

-- the first fault of a text as an expression with these variables
abbrev pub IsTextFault : List Text → Text → XSyntax → Type 0
IsTextFault names text fault = syntax.IsFault names (chars text) fault

-- the fault of a text as an expression with these variables
abbrev pub IsParseFault : List Text → Text → ExpressionFault → Type 0
IsParseFault names text (XPath fault) = IsTextFault names text fault
IsParseFault names text Pattern = ⊥
IsParseFault names text Memory = ⊤

abbrev pub IsSomeParseFault : List Text → Option Text → ExpressionFault → Type 0
IsSomeParseFault names None fault = IsMemory fault
  where
    IsMemory : ExpressionFault → Type 0
    IsMemory Memory = ⊤
    IsMemory _ = ⊥
IsSomeParseFault names (Some text) fault = IsParseFault names text fault

-- The fault of the rule's expressions: that of `xpath`, or where `xpath` has none that of `violationSuppressXPath`.
pub data IsSyntaxFault (texts : RuleTexts) : XSyntax → Type 0 where
  of_query : {fault : XSyntax} → IsTextFault (names_of texts) texts.xpath fault → IsSyntaxFault texts fault
  of_suppression : (query : Expr) (text : Text) {fault : XSyntax} → IsSpelledBy (names_of texts) texts.xpath query → suppression_of texts ≡ Some text →
      IsTextFault (names_of texts) text fault → IsSyntaxFault texts fault

-- The expressions are spelled, and one of the rule's patterns is no pattern.
pub record HasRefused (texts : RuleTexts) : Type 0 where
  pub query : Expr
  pub suppression : Option Expr
  pub spell : Spell texts query suppression
  pub refused : HasNoPattern (patterns_of texts query suppression)

-- the first fault of a rule's texts; want of memory has no cause in them
abbrev pub IsFault : RuleTexts → ExpressionFault → Type 0
IsFault texts (XPath fault) = IsSyntaxFault texts fault
IsFault texts Pattern = HasRefused texts
IsFault texts Memory = ⊤
