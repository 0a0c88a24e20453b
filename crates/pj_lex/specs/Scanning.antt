-- What the scanner gives: the longest word of a rule, found in one walk.
use Rattle.std.specs.Prelude.{ℕ, ◌≡◌, ◌++◌, Bool, if◌then◌else◌, List, [], ◌∷◌, Option, Some, None, Err}
use Rattle.std.specs.Str.{chars}
use denote.Bor.{Bor}
use Rattle.pj_lex.specs.Characters.{holds}
use Rattle.pj_lex.specs.Tokens.{Begins}
use Rattle.pj_lex.specs.States.{step, spelled}
use Rattle.pj_lex.specs.declared.category.Category.{Category}
use Rattle.pj_lex.specs.declared.state.State.{State}

-- what was spelled, and what stands behind it
abbrev pub Found : Type 0
Found = Option (Category × List ℕ)

-- what the word read so far spells; where it spells nothing, what was found before
abbrev pub found_at : Option Category → List ℕ → Found → Found
found_at None behind before = before
found_at (Some s) behind before = Some (s, behind)

-- the longest word found, where the scanner goes on from a state
unfoldable pub scanned : List ℕ → State → Found → Found
scanned [] q found = found
scanned (c ∷ cs) q found = elim (step (λ s. holds s c) q) [ None ↦ found | Some r ↦ scanned cs r (found_at (spelled r) cs found) ]

-- the front of the text whose characters pass, and what stands behind it
abbrev pub run : (ℕ → Bool) → List ℕ → List ℕ
run p [] = []
run p (c ∷ cs) = if p c then c ∷ run p cs else []

abbrev pub past_run : (ℕ → Bool) → List ℕ → List ℕ
past_run p [] = []
past_run p (c ∷ cs) = if p c then past_run p cs else c ∷ cs

-- the end of a text
abbrev pub IsBehind : List ℕ → List ℕ → Type 0
IsBehind behind text = (w : List ℕ) × (text ≡ w ++ behind)

-- what the code's answer says
abbrev pub seen : Option (Category × Bor (List ℕ)) → Found
seen None = None
seen (Some p) = Some (p.0, chars p.1.now)

-- a fault stands at the text's beginning
abbrev pub IsFault : List ℕ → ℕ → Type 0
IsFault text f = (behind : List ℕ) × Begins text (Err f) behind
