-- For private clauses: what is kept of a rule that can be used, and from which of its texts that is made.
use Rattle.std.specs.Prelude.{Bool, ◌&&◌}
use Rattle.std.specs.Cmp.Lexicographic.{pointwise}
use Rattle.pj_rule_texts.specs.Values.{is_same}
use Rattle.pj_rule_texts.specs.declared.properties.Property.{Property}
use Rattle.pj_rule_texts.specs.declared.rule.RuleTexts.{RuleTexts}
use Rattle.pj_rule_sets.specs.Expressions.{AreOf, IsSound}
use Rattle.pj_rule_sets.specs.declared.expressions.RuleExpressions.{RuleExpressions}

-- The texts make a rule that can be used, with these expressions.
pub record IsUsable (texts : RuleTexts) (expressions : RuleExpressions) : Type 0 where
  pub are_of : AreOf texts expressions
  pub sound : IsSound texts

abbrev pub is_same_property : Property → Property → Bool
is_same_property a b = is_same a.name b.name && (is_same a.kind b.kind && is_same a.value b.value)

-- both have the same message, query and other properties: neither names nor priorities take part in expressions
abbrev pub have_same_sources : RuleTexts → RuleTexts → Bool
have_same_sources a b = is_same a.row.message b.row.message && (is_same a.xpath b.xpath && pointwise is_same_property a.properties b.properties)
