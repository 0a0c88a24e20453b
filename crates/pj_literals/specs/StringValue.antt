-- JLS 3.10.4 to 3.10.6: what a character literal, a string literal and a text block stand for.
use Rattle.std.specs.Prelude.{ℕ, ◌-◌, ◌⊎◌, if◌then◌else◌, nat_eq, Bool, List, [], ◌∷◌, take, drop, length}
use Rattle.std.specs.List.{starts_with}
use Rattle.pj_lex.specs.Pattern.{Matches}
use Rattle.pj_lex.specs.Quoted as quoted
use Rattle.pj_literals.specs.Escapes.{interpreted}
use Rattle.pj_literals.specs.TextBlock.{text_block}

-- a character literal, a string literal or a text block
abbrev pub IsQuoted : List ℕ → Type 0
IsQuoted w = Matches quoted.char_literal w ⊎ (Matches quoted.string_literal w ⊎ Matches quoted.text_block w)

-- three quotes open a text block
abbrev pub is_text_block : List ℕ → Bool
is_text_block w = starts_with nat_eq w (34 ∷ 34 ∷ 34 ∷ [])

-- what stands between the delimiters of a character or string literal
abbrev pub between_delimiters : List ℕ → List ℕ
between_delimiters w = take (length w - 2) (drop 1 w)

-- the characters that the literal stands for: escapes are interpreted last
abbrev pub string_value : List ℕ → List ℕ
string_value w = interpreted (if is_text_block w then text_block w else between_delimiters w)
