-- The keys by which compiled patterns are found.
use Rattle.std.specs.Prelude.{◌≡◌, List, ◌∷◌, if◌then◌else◌}
use Rattle.std.specs.List.{AllByRecursion}
use Rattle.pj_xpatterns.specs.Meaning.{Text, Pattern}

-- the key of a pattern: its flags, each as its letter or `-`, and its text
abbrev pub key_of : Pattern → Text
key_of pattern = (if pattern.1.any_case then 105 else 45) ∷ (if pattern.1.multi_line then 109 else 45) ∷ (if pattern.1.dot_all then 115 else 45) ∷ pattern.0

-- each pattern stands behind its key
abbrev pub AreKeyed : List (Text × Pattern) → Type 0
AreKeyed entries = AllByRecursion (λ entry. entry.0 ≡ key_of entry.1) entries
