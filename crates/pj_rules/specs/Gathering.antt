-- For private clauses: how the lists of top rulesets are counted and gathered.
use Rattle.std.specs.Prelude.{⊤, ◌≡◌, ℕ, ◌+◌, ◌<◌, Bool, true, List, [], ◌∷◌, count_by, nat_le}
use Rattle.pj_rule_sets.specs.Lists.{Taken}
use Rattle.pj_rule_sets.specs.declared.entry.Entry.TheVariants as entry
use Rattle.pj_rule_sets.specs.Rules.{EffectiveRules}
use Rattle.pj_rules.specs.Load.{TopRules, count_of, greatest_count}
use Rattle.pj_rules.specs.declared.fault.RuleRefused.{RuleRefused}
use Rattle.pj_rules.specs.declared.fault.RuleRefused.TheVariants.{Rule, TooManyRules, Failed, Memory}

abbrev pub is_kept : ℕ → Taken → Bool
is_kept minimum (origin, entry.Rule texts) = nat_le texts.row.priority minimum
is_kept minimum (origin, entry.Unusable unusable) = true

-- how many members of the lists count
abbrev pub counted : ℕ → List TopRules → ℕ
counted minimum [] = 0
counted minimum (top ∷ tops) = count_by (is_kept minimum) top.list + counted minimum tops

-- there are too many rules
abbrev pub IsTooMany : EffectiveRules → RuleRefused → Type 0
IsTooMany rules (Rule fault) = ⊥
IsTooMany rules (TooManyRules count) = (count ≡ count_of rules) × (greatest_count < count)
IsTooMany rules Failed = ⊥
IsTooMany rules Memory = ⊤
