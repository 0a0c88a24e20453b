-- JLS 3.10.6, step 1: line terminators; and the lines between them.
use Rattle.std.specs.Prelude.{ℕ, ◌==◌, if◌then◌else◌, List, [], ◌∷◌, ◌++◌, Option, Some, None}
use Rattle.pj_lex.specs.Rules.{heads}

-- a carriage return directly before a line feed goes, and any other one becomes a line feed
abbrev pub normalized : List ℕ → List ℕ
normalized [] = []
normalized (c ∷ cs) = if c == 13 then (if heads (λ d. d == 10) cs then normalized cs else 10 ∷ normalized cs) else c ∷ normalized cs

abbrev pub onto_first : ℕ → List (List ℕ) → List (List ℕ)
onto_first c [] = (c ∷ []) ∷ []
onto_first c (l ∷ ls) = (c ∷ l) ∷ ls

-- what stands before, between and behind the line feeds: one line more than there are line feeds
abbrev pub between_feeds : List ℕ → List (List ℕ)
between_feeds [] = [] ∷ []
between_feeds (c ∷ cs) = if c == 10 then [] ∷ between_feeds cs else onto_first c (between_feeds cs)

-- the lines of a text
abbrev pub lines_of : List ℕ → List (List ℕ)
lines_of cs = between_feeds (normalized cs)

-- further lines, a line feed before each
abbrev pub further_lines : List (List ℕ) → List ℕ
further_lines [] = []
further_lines (l ∷ ls) = 10 ∷ (l ++ further_lines ls)

-- the lines joined by line feeds
abbrev pub joined : List (List ℕ) → List ℕ
joined [] = []
joined (l ∷ ls) = l ++ further_lines ls

-- private clauses alone cite these: the lines that are left of a text, if one is left
abbrev pub lines_left : Option (List ℕ) → List (List ℕ)
lines_left None = []
lines_left (Some cs) = lines_of cs

-- a text without the line feed that it may begin with
abbrev pub behind_return : List ℕ → List ℕ
behind_return [] = []
behind_return (c ∷ cs) = if c == 10 then cs else c ∷ cs
