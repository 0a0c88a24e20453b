-- Names of types, as rules write them.
use Rattle.std.specs.Prelude.{ℕ, Bool, ◌==◌, ◌&&◌, ◌||◌, List, [], ◌∷◌, codes, reverse, Option, Some, None, if◌then◌else◌}
use Rattle.std.specs.List.{list_all, slice_split}
use Rattle.pj_signature_patterns.specs.Cuts.{before_last}
use Rattle.pj_signature_patterns.specs.Identifiers.{is_identifier, is_word_of}

-- the words of the primitive types, JLS 4.2
unfoldable pub primitive_words : List (List ℕ)
primitive_words =
    codes "boolean" ∷ codes "byte" ∷ codes "short" ∷ codes "int" ∷ codes "long" ∷ codes "char" ∷ codes "float" ∷ codes "double" ∷ []

-- identifiers with a dot, 46, between them: a canonical name, JLS 6.7, or a binary one, JLS 13.1
abbrev pub is_qualified : List ℕ → Bool
is_qualified text = list_all is_identifier (slice_split (λ b. b == 46) text)

-- a text read from its end without the pairs of brackets, 91 and 93, that stand there
abbrev pub past_brackets : List ℕ → List ℕ
past_brackets [] = []
past_brackets (b ∷ []) = b ∷ []
past_brackets (b ∷ (c ∷ rest)) = if (b == 93) && (c == 91) then past_brackets rest else b ∷ (c ∷ rest)

-- what a name of a type has before the pairs of brackets behind it, which make it one of an array, JLS 10.1
abbrev pub element_of : List ℕ → List ℕ
element_of text = reverse (past_brackets (reverse text))

abbrev pub before_bracket : Option (List ℕ) → Option (List ℕ)
before_bracket None = None
before_bracket (Some inside) = before_last 91 inside

-- what stands before a pair of brackets at the end of a text
abbrev pub component_of : List ℕ → Option (List ℕ)
component_of text = before_bracket (before_last 93 text)

-- A name of a type in a pattern: identifiers joined by dots, or the word of a primitive type, with any number of pairs of brackets behind.
abbrev pub is_type_name : List ℕ → Bool
is_type_name text = is_word_of primitive_words (element_of text) || is_qualified (element_of text)
