-- The patterns of a rule beside those of its expressions, and what a rule's own regular expression covers.
use Rattle.std.specs.Prelude.{Bool, false, List, [], ◌∷◌, ◌++◌, Option, Some, None, codes, if◌then◌else◌}
use Rattle.std.specs.List.{flat_map}
use Rattle.pj_rule_texts.specs.Values.{Text, is_same, needs_no_type, type_named}
use Rattle.pj_rule_texts.specs.declared.properties.Property.{Property}
use Rattle.pj_rule_texts.specs.declared.rule.RuleTexts.{RuleTexts}
use Rattle.pj_rule_texts.specs.declared.types.PropertyType.{PropertyType}
use Rattle.pj_rule_texts.specs.declared.types.PropertyType.TheVariants as type
use Rattle.pj_xpatterns.specs.Meaning.{Pattern, is_found, no_flags}

-- the pattern P as one that matches a whole text: `\A(?:P)\z`
abbrev pub whole : Text → Pattern
whole pattern = (codes "\\A(?:" ++ (pattern ++ codes ")\\z"), no_flags)

-- the value of the first property of a name
abbrev pub value_of : Text → List Property → Option Text
value_of name [] = None
value_of name (property ∷ properties) = if is_same property.name name then Some property.value else value_of name properties

abbrev pub suppression_of : RuleTexts → Option Text
suppression_of texts = value_of (codes "violationSuppressXPath") texts.properties

abbrev pub suppressing_regex_of : RuleTexts → Option Text
suppressing_regex_of texts = value_of (codes "violationSuppressRegex") texts.properties

abbrev pub pattern_of_type : Option PropertyType → Text → List Pattern
pattern_of_type (Some type.Regex) text = (text, no_flags) ∷ []
pattern_of_type _ text = []

-- a property of the type `Regex` is a pattern by itself, also where no expression uses it
abbrev pub pattern_of_property : Property → List Pattern
pattern_of_property property = if needs_no_type property.name then [] else pattern_of_type (type_named property.kind) property.value

abbrev pub property_patterns : RuleTexts → List Pattern
property_patterns texts = flat_map pattern_of_property texts.properties

abbrev pub whole_of : Option Text → List Pattern
whole_of None = []
whole_of (Some text) = whole text ∷ []

-- the pattern, where there is one, matches the whole text
abbrev pub is_covered_by : Option Text → Text → Bool
is_covered_by None text = false
is_covered_by (Some pattern) text = is_found (whole pattern) text

-- whether the rule has a `violationSuppressRegex` that matches its whole message
abbrev pub is_covered : RuleTexts → Bool
is_covered texts = is_covered_by (suppressing_regex_of texts) texts.row.message
