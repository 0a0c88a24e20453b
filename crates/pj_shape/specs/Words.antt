-- The words of a text, by their tokens. Comments are not among the tokens.
use Rattle.std.specs.Prelude.{ℕ, ◌≤◌, Bool, false, nat_le, ◌&&◌, List, [], ◌∷◌, slice_get}
use Rattle.std.specs.List.{All}
use Rattle.std.specs.Option.{option_map_or}
use Rattle.pj_tree.specs.Tree.{slice_at, IsSpanOf}
use Rattle.pj_tree.specs.declared.node.Span.{Span}

-- the bytes of the token at the place, and none where there is no token
abbrev pub word_at : List ℕ → List Span → ℕ → List ℕ
word_at text spans i = option_map_or (slice_at text) (slice_get spans i) []

abbrev pub begins_between : ℕ → ℕ → List ℕ → Bool
begins_between low high [] = false
begins_between low high (c ∷ cs) = nat_le low c && nat_le c high

-- the word at the place begins with `a` to `z`
abbrev pub is_small : List ℕ → List Span → ℕ → Bool
is_small text spans i = begins_between 97 122 (word_at text spans i)

-- the word at the place begins with `A` to `Z`
abbrev pub is_capital : List ℕ → List Span → ℕ → Bool
is_capital text spans i = begins_between 65 90 (word_at text spans i)

-- the first of the spans, if there is one, begins at the offset or later
abbrev pub BeginsFrom : ℕ → List Span → Type 0
BeginsFrom offset [] = Unit {0}
BeginsFrom offset (s ∷ rest) = offset ≤ s.from

-- each span ends where the next one begins, or before
abbrev pub AreInOrder : List Span → Type 0
AreInOrder [] = Unit {0}
AreInOrder (s ∷ rest) = BeginsFrom s.to rest × AreInOrder rest

-- the tokens are stretches of the text, one behind the other
pub record AreTokens (text : List ℕ) (spans : List Span) : Type 0 where
  pub within : All (IsSpanOf text) spans
  pub ordered : AreInOrder spans
