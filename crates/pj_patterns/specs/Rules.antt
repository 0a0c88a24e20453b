-- Rules: patterns with what their words are.
use Rattle.std.specs.Prelude.{ℕ, ◌≡◌, ◌⊎◌, Bool, List, [], ◌∷◌}
use Rattle.pj_patterns.specs.Pattern.{Pattern, Matches}

-- a rule of a grammar: its words, and what they are
pub record Rule (Kind Set : Type 0) : Type 0 where
  pub kind : Kind
  pub pattern : Pattern Set

abbrev pub rule : {Kind Set : Type 0} → Kind → Pattern Set → Rule Kind Set
rule k p = record { kind = k; pattern = p }

-- what the first rule that matches the word says that it is
abbrev pub FirstOf : {Kind Set : Type 0} → (Set → ℕ → Bool) → List (Rule Kind Set) → List ℕ → Kind → Type 0
FirstOf holds [] w k = ⊥
FirstOf holds (r ∷ rs) w k = (Matches holds r.pattern w × (k ≡ r.kind)) ⊎ ((Matches holds r.pattern w → ⊥) × FirstOf holds rs w k)
