-- The words of a node: the texts of its own tokens, in order.
use Rattle.std.specs.Prelude.{ℕ, Bool, List, [], ◌∷◌, nat_eq, unwrap_or}
use Rattle.std.specs.List.{list_any}
use Rattle.std.specs.Cmp.Lexicographic.{pointwise}
use Rattle.pj_tree.specs.Tree.{Tree, own_of}
use Rattle.pj_tree.specs.declared.node.Node.{Node}

abbrev pub words_of : Tree → Node → List (List ℕ)
words_of t n = unwrap_or (own_of t n) []

abbrev pub first_of : List (List ℕ) → List ℕ
first_of [] = []
first_of (word ∷ words) = word

-- the last of the words, and the text before them where there is none
abbrev pub last_of : List ℕ → List (List ℕ) → List ℕ
last_of before [] = before
last_of before (word ∷ words) = last_of word words

-- whether one of the words is this text
abbrev pub has : List ℕ → List (List ℕ) → Bool
has text words = list_any (λ word. pointwise nat_eq word text) words
