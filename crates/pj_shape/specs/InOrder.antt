-- Parts of a text that stand in order, and their tokens.
use Rattle.std.specs.Prelude.{ℕ, ◌≤◌, List, [], ◌∷◌, ◌++◌}
use Rattle.pj_tree.specs.Nested.{Parts, NoMore, Token, Child}
use Rattle.pj_tree.specs.declared.node.Span.{Span}

-- The parts stand between two offsets, each behind the one before it; and so do those of each child, from where it begins up to where it ends.
abbrev pub StandInOrder : ℕ → ℕ → Parts → Type 0
StandInOrder from to NoMore = from ≤ to
StandInOrder from to (Token token rest) = (from ≤ token.from) × (token.from ≤ token.to) × StandInOrder token.to to rest
StandInOrder from to (Child kind begin inside end rest) = (from ≤ begin) × StandInOrder begin end inside × StandInOrder end to rest

-- the tokens of the parts and of all nodes in them, in the order of the text
abbrev pub all_tokens : Parts → List Span
all_tokens NoMore = []
all_tokens (Token token rest) = token ∷ all_tokens rest
all_tokens (Child kind begin inside end rest) = all_tokens inside ++ all_tokens rest
