-- Nodes as parts of a text: the stretches that they span, and their own tokens.
use Rattle.std.specs.Prelude.{ℕ, ◌-◌, nat_lt, if◌then◌else◌, List, [], ◌∷◌, length, slice_get, slice_range}
use Rattle.std.specs.Option.{option_map_or}
use Rattle.pj_tree.specs.Nested.{Parts, NoMore, Token, Child}
use Rattle.pj_tree.specs.declared.node.Span.{Span}
use Rattle.pj_shape.specs.Shaped.{Nodes, no_nodes, node}

-- where the token at the place begins, and the end of the text where no token follows; comments are not among the tokens
abbrev pub begin_of : List ℕ → List Span → ℕ → ℕ
begin_of text spans i = option_map_or (λ (s : Span). s.from) (slice_get spans i) (length text)

-- where the last of the tokens from i to j ends; without tokens it is where the next token begins, or the end of the text
abbrev pub end_of : List ℕ → List Span → ℕ → ℕ → ℕ
end_of text spans i j = if nat_lt i j then option_map_or (λ (s : Span). s.to) (slice_get spans (j - 1)) (length text) else begin_of text spans i

-- tokens, and the parts behind them
abbrev pub tokens_then : List Span → Parts → Parts
tokens_then [] rest = rest
tokens_then (token ∷ tokens) rest = Token token (tokens_then tokens rest)

-- The parts of a node that takes the tokens up to `stop`, from the place `at` on: the tokens before its next child are its own,
-- then comes the child, and what is behind it.
abbrev pub parts_of : List ℕ → List Span → ℕ → ℕ → Nodes → Parts
parts_of text spans at stop no_nodes = tokens_then (slice_range spans at stop) NoMore
parts_of text spans at stop (node k i j below after) =
    tokens_then (slice_range spans at i)
    (Child k (begin_of text spans i) (parts_of text spans i j below) (end_of text spans i j) (parts_of text spans j stop after))
