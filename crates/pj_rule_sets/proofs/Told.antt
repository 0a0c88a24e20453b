-- From what is kept of a rule, what its calls tell of its suppression.
use Rattle.std.proofs.Common.{◌≡◌, Option, Some, None, sym, subst}
use Rattle.std.specs.Option.{option_map}
use Rattle.pj_rule_sets.specs.Expressions.{AreOf, Both, IsParsed, names_of}
use Rattle.pj_rule_sets.specs.Patterns.{suppression_of}
use Rattle.pj_rule_sets.specs.declared.expressions.RuleExpressions.{RuleExpressions}
use Rattle.pj_rule_sets.specs.declared.spelled.Spelled.{Spelled}
use Rattle.pj_rule_texts.specs.declared.rule.RuleTexts.{RuleTexts}
use Rattle.pj_rule_sets.specs.Kept.{ArePatternsOf}

-- what is behind an `Arc` is what is kept
pub kept_there : {texts : RuleTexts} {kept there : RuleExpressions} → there ≡ kept → AreOf texts kept → AreOf texts there
kept_there {texts} same are = subst (AreOf texts) (sym same) are

-- what is told of the expression, and of its patterns, where this is kept of a rule with these texts
abbrev pub IsExprTold : RuleTexts → Option Spelled → Type 0
IsExprTold texts kept = Both (suppression_of texts) (option_map (λ s. s.expr) kept) (IsParsed (names_of texts))

abbrev pub ArePatternsTold : RuleTexts → Option Spelled → Type 0
ArePatternsTold texts kept = Both (suppression_of texts) (option_map (λ s. s.patterns) kept) (ArePatternsOf texts)

-- a part of the second one is there where that is there
part_of_both : {A B C : Type 0} (P : A → B → Type 0) (Q : A → C → Type 0) (f : B → C) → ((a : A) (b : B) → P a b → Q a (f b)) → (x : Option A) (y : Option B) → Both x y P → Both x (option_map f y) Q
part_of_both P Q f part None None h = h
part_of_both P Q f part None (Some b) h = absurd h
part_of_both P Q f part (Some a) None h = absurd h
part_of_both P Q f part (Some a) (Some b) h = part a b h

pub expr_told : (texts : RuleTexts) (kept : RuleExpressions) → AreOf texts kept → IsExprTold texts kept.suppression
expr_told texts kept are = part_of_both _ _ (λ s. s.expr) (λ text s told. told.parsed) (suppression_of texts) kept.suppression are.suppression

pub patterns_told : (texts : RuleTexts) (kept : RuleExpressions) → AreOf texts kept → ArePatternsTold texts kept.suppression
patterns_told texts kept are =
    part_of_both _ _ (λ s. s.patterns) (λ text s told. record { expr = s.expr; parsed = told.parsed; are = told.patterns }) (suppression_of texts) kept.suppression are.suppression
