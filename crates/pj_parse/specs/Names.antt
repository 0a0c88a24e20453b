-- Names and literals, by the words of a node.
use Rattle.std.specs.Prelude.{ℕ, ◌-◌, Bool, not, Option, None, Some, List, [], ◌∷◌, length, take, map, filter, codes, nat_eq}
use Rattle.std.specs.Borrow.{Bor}
use Rattle.std.specs.List.{list_any, join_by}
use Rattle.std.specs.Cmp.Lexicographic.{pointwise}
use Rattle.std.specs.Str.{chars, encode_utf8_all}
use Rattle.pj_literals.specs.StringValue.{string_value}

-- the words of declarations of packages (JLS 7.4) and imports (JLS 7.5), and of names (JLS 6.2), that are no identifiers: keywords (JLS 3.9), separators (JLS 3.11), and the sign for all members
abbrev pub other_words : List (List ℕ)
other_words = codes "package" ∷ codes "import" ∷ codes "static" ∷ codes "." ∷ codes "*" ∷ codes ";" ∷ []

-- any other word is one (JLS 3.8)
abbrev pub is_identifier : List ℕ → Bool
is_identifier word = not (list_any (pointwise nat_eq word) other_words)

abbrev pub identifiers : List (List ℕ) → List (List ℕ)
identifiers words = filter is_identifier words

-- identifiers with dots between
abbrev pub dotted : List (List ℕ) → List ℕ
dotted names = join_by (λ name. name) (codes ".") names

-- the same, but nothing of none
abbrev pub dotted_if_any : List (List ℕ) → Option (List ℕ)
dotted_if_any [] = None
dotted_if_any (name ∷ names) = Some (dotted (name ∷ names))

-- what stands before the last of the identifiers, if anything does
abbrev pub dotted_qualifier : List (List ℕ) → Option (List ℕ)
dotted_qualifier names = dotted_if_any (take (length names - 1) names)

-- the value of the first of the words, which is a character literal, a string literal or a text block
abbrev pub first_value : List (List ℕ) → Option (List ℕ)
first_value [] = None
first_value (word ∷ words) = Some (encode_utf8_all (string_value (chars word)))

-- private clauses alone cite this: texts that are borrowed
abbrev pub texts_of : List (Bor (List ℕ)) → List (List ℕ)
texts_of texts = map (λ text. text.now) texts
