-- Names among texts, and among the words at places. It serves clauses inside the crate alone.
use Rattle.std.specs.Prelude.{ℕ, Bool, List, nat_eq}
use Rattle.std.specs.Borrow.{Bor}
use Rattle.std.specs.List.{list_any}
use Rattle.std.specs.Cmp.Lexicographic.{pointwise}
use Rattle.pj_tree.specs.declared.node.Span.{Span}
use Rattle.pj_shape.specs.Words.{word_at}

-- one of the texts is the name
abbrev pub has_word : List ℕ → List (Bor (List ℕ)) → Bool
has_word name texts = list_any (λ s. pointwise nat_eq s.now name) texts

-- the word at one of the places is the name
abbrev pub has_place : List ℕ → List Span → List ℕ → List ℕ → Bool
has_place text spans name places = list_any (λ v. pointwise nat_eq (word_at text spans v) name) places
