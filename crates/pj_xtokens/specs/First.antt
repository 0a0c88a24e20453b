-- The first of some tokens.
use Rattle.std.specs.Prelude.{ℕ, Bool, true, false, List, [], ◌∷◌}
use Rattle.std.specs.Str.{encode_utf8_all}
use Rattle.pj_xtokens.specs.Tokens.{Lexed}
use Rattle.pj_xtokens.specs.declared.token.TokenKind.{TokenKind}
use Rattle.pj_xtokens.specs.declared.token.TokenKind.TheVariants as kind
use Rattle.pj_xtokens.specs.declared.token.Sign.TheVariants as sign

-- the tokens behind it
abbrev pub behind_first : List Lexed → List Lexed
behind_first [] = []
behind_first (x ∷ xs) = xs

-- its characters, in UTF-8; none, where there is none
abbrev pub first_text : List Lexed → List ℕ
first_text [] = []
first_text (x ∷ xs) = encode_utf8_all x.text

-- its offset, in bytes from 0; 0, where there is none
abbrev pub first_from : List Lexed → ℕ
first_from [] = 0
first_from (x ∷ xs) = x.from

-- the sign `(`
abbrev pub is_parenthesis : TokenKind → Bool
is_parenthesis (kind.Sign sign.LeftParenthesis) = true
is_parenthesis _ = false

-- a name, which a word of the grammar is too
abbrev pub is_name : TokenKind → Bool
is_name kind.Name = true
is_name _ = false

-- whether it is a name
abbrev pub begins_with_name : List Lexed → Bool
begins_with_name [] = false
begins_with_name (x ∷ xs) = is_name x.kind

-- whether it is `(`
abbrev pub begins_with_parenthesis : List Lexed → Bool
begins_with_parenthesis [] = false
begins_with_parenthesis (x ∷ xs) = is_parenthesis x.kind
