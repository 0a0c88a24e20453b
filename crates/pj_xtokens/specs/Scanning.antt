-- What the scanner gives: the kind of a word by its states, and the longest word of a rule, found in one walk.
use Rattle.std.specs.Prelude.{ℕ, ◌≡◌, ◌++◌, List, [], ◌∷◌, Option, Some, None}
use Rattle.std.specs.Str.{chars}
use denote.Bor.{Bor}
use Rattle.pj_xtokens.specs.Characters.{holds}
use Rattle.pj_xtokens.specs.States.{step, spelled}
use Rattle.pj_xtokens.specs.declared.token.TokenKind.{TokenKind}
use Rattle.pj_xtokens.specs.declared.state.State.{State}
use Rattle.pj_xtokens.specs.declared.state.State.TheVariants.{Start}

-- the kind of the word that leads on from a state, where it is one
abbrev pub kind_from : List ℕ → State → Option TokenKind
kind_from [] q = spelled q
kind_from (c ∷ w) q = elim (step (λ s. holds s c) q) [ None ↦ None | Some r ↦ kind_from w r ]

-- the kind of the word by the scanner's states, where it spells a token
abbrev pub kind_of : List ℕ → Option TokenKind
kind_of w = kind_from w Start

-- what was spelled, and what stands behind it
abbrev pub Found : Type 0
Found = Option (TokenKind × List ℕ)

-- what the word read so far spells; where it spells nothing, what was found before
abbrev pub found_at : Option TokenKind → List ℕ → Found → Found
found_at None behind before = before
found_at (Some k) behind before = Some (k, behind)

-- the longest word found, where the scanner goes on from a state
unfoldable pub scanned : List ℕ → State → Found → Found
scanned [] q found = found
scanned (c ∷ cs) q found = elim (step (λ s. holds s c) q) [ None ↦ found | Some r ↦ scanned cs r (found_at (spelled r) cs found) ]

-- the end of a text
abbrev pub IsBehind : List ℕ → List ℕ → Type 0
IsBehind behind text = (w : List ℕ) × (text ≡ w ++ behind)

-- what the code's answer says
abbrev pub seen : Option (TokenKind × Bor (List ℕ)) → Found
seen None = None
seen (Some p) = Some (p.0, chars p.1.now)
