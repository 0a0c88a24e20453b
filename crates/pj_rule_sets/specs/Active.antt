-- For which paths a rule is active, and which messages it covers by itself.
use Rattle.std.specs.Prelude.{ℕ, Bool, false, ◌||◌, not, List, slice_get}
use Rattle.std.specs.List.{list_any}
use Rattle.std.specs.Option.{option_map_or}
use Rattle.pj_rule_sets.specs.Patterns.{is_covered, whole}
use Rattle.pj_rule_texts.specs.Values.{Text}
use Rattle.pj_rule_sets.specs.Rules.{EffectiveRule, EffectiveRules, texts_of}
use Rattle.pj_xpatterns.specs.Meaning.{is_found}

-- some pattern matches the whole path
abbrev pub matches_some : List Text → Text → Bool
matches_some patterns path = list_any (λ pattern. is_found (whole pattern) path) patterns

-- Rules of a top ruleset with these patterns are active unless an exclude pattern matches the path and no include pattern does.
abbrev pub are_active : List Text → List Text → Text → Bool
are_active exclude include path = not (matches_some exclude path) || matches_some include path

abbrev pub is_active : EffectiveRule → Text → Bool
is_active rule path = are_active rule.exclude rule.include path

-- the rule has a `violationSuppressRegex` that matches its whole message
abbrev pub covers : EffectiveRule → Bool
covers rule = is_covered (texts_of rule)

-- ---- by the number of the rule; of a number that no rule has both are false

abbrev pub is_active_at : EffectiveRules → ℕ → Text → Bool
is_active_at set number path = option_map_or (λ rule. is_active rule path) (slice_get set.rules number) false

abbrev pub covers_at : EffectiveRules → ℕ → Bool
covers_at set number = option_map_or covers (slice_get set.rules number) false
