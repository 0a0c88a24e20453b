-- Tables of words.
use Rattle.std.specs.Prelude.{ℕ, List, [], ◌∷◌, Option, Some, None, nat_eq, if◌then◌else◌}
use Rattle.std.specs.Cmp.Lexicographic.{pointwise}

-- What a word has in a table of texts with values: the value of the first row whose text is the word, and nothing
-- where no row's text is.
abbrev pub value_in : {A : Type 0} → List (List ℕ × A) → List ℕ → Option A
value_in [] word = None
value_in (row ∷ rows) word = if pointwise nat_eq row.0 word then Some row.1 else value_in rows word
