-- Names as descriptors and signatures write them.
use Rattle.std.specs.Prelude.{◌&&◌, ◌==◌, Bool, false, not, ℕ, List, [], ◌∷◌, map, codes, if◌then◌else◌, nat_eq}
use Rattle.std.specs.List.{list_all, list_any}

-- whether a byte is none of some signs
abbrev pub is_none_of : List ℕ → ℕ → Bool
is_none_of signs b = not (list_any (λ sign. nat_eq sign b) signs)

-- a name that has one byte at least, and none of some signs
abbrev pub is_name : List ℕ → List ℕ → Bool
is_name signs [] = false
is_name signs (b ∷ bs) = is_none_of signs b && list_all (is_none_of signs) bs

-- puts a byte in front of the first piece
abbrev pub in_first_piece : ℕ → List (List ℕ) → List (List ℕ)
in_first_piece b [] = (b ∷ []) ∷ []
in_first_piece b (piece ∷ rest) = (b ∷ piece) ∷ rest

-- the pieces of a text between its solidi, 47: one more than it has solidi
abbrev pub pieces : List ℕ → List (List ℕ)
pieces [] = [] ∷ []
pieces (b ∷ bs) = if b == 47 then [] ∷ pieces bs else in_first_piece b (pieces bs)

-- the signs that no unqualified name has, JVMS 4.2.2
abbrev pub unqualified_signs : List ℕ
unqualified_signs = codes ".;[/"

-- the signs that no identifier of a signature has, JVMS 4.7.9.1
abbrev pub identifier_signs : List ℕ
identifier_signs = codes ".;[<>:/"

-- An identifier of a signature, JVMS 4.7.9.1.
abbrev pub is_identifier : List ℕ → Bool
is_identifier = is_name identifier_signs

-- Names with solidi between.
abbrev pub are_names : List ℕ → List ℕ → Bool
are_names signs text = list_all (is_name signs) (pieces text)

-- The binary name of a class in internal form, JVMS 4.2.1: unqualified names with solidi between.
abbrev pub is_internal_name : List ℕ → Bool
is_internal_name = are_names unqualified_signs

-- What a signature writes of a class's package and name, JVMS 4.7.9.1: identifiers with solidi between.
abbrev pub is_path : List ℕ → Bool
is_path = are_names identifier_signs

-- a solidus as a dot, and every other byte as it is
abbrev pub as_dot : ℕ → ℕ
as_dot b = if b == 47 then 46 else b

-- The name of the Java language for a name in internal form, JLS 13.1: dots in place of solidi.
abbrev pub dotted : List ℕ → List ℕ
dotted text = map as_dot text
