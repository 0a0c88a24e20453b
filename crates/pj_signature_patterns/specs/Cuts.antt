-- Texts cut at signs.
use Rattle.std.specs.Prelude.{ℕ, ◌==◌, List, [], ◌∷◌, Option, Some, None, if◌then◌else◌}
use denote.Bor.{Bor}

abbrev pub onto_front : ℕ → Option (List ℕ × List ℕ) → Option (List ℕ × List ℕ)
onto_front b None = None
onto_front b (Some pair) = Some (b ∷ pair.0, pair.1)

-- what stands before the first of a sign, and behind it
abbrev pub cut : ℕ → List ℕ → Option (List ℕ × List ℕ)
cut sign [] = None
cut sign (b ∷ bs) = if b == sign then Some ([], bs) else onto_front b (cut sign bs)

abbrev pub in_front : ℕ → Option (List ℕ) → Option (List ℕ)
in_front b None = None
in_front b (Some bs) = Some (b ∷ bs)

-- what stands before a sign at the end
abbrev pub before_last : ℕ → List ℕ → Option (List ℕ)
before_last sign [] = None
before_last sign (b ∷ []) = if b == sign then Some [] else None
before_last sign (b ∷ (c ∷ cs)) = in_front b (before_last sign (c ∷ cs))

-- borrowed texts as they are seen
abbrev pub seen_pair : Option (Bor (List ℕ) × Bor (List ℕ)) → Option (List ℕ × List ℕ)
seen_pair None = None
seen_pair (Some pair) = Some (pair.0.now, pair.1.now)

abbrev pub seen_text : Option (Bor (List ℕ)) → Option (List ℕ)
seen_text None = None
seen_text (Some text) = Some text.now
