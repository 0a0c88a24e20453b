-- Texts of words with white space and comments between them, and the tokens that they have.
use Rattle.std.specs.Prelude.{ℕ, ◌≡◌, ◌+◌, List, [], ◌∷◌, ◌++◌, map}
use Rattle.pj_xtokens.specs.Gaps.{Past}
use Rattle.pj_xtokens.specs.Rules.{Spells}
use Rattle.pj_xtokens.specs.Size.{size}
use Rattle.pj_xtokens.specs.Tokens.{Lexed, lexed}
use Rattle.pj_xsyntax_laws.specs.Spaced.{Word}

-- a word, and the white space and comments that stand behind it
pub record Piece : Type 0 where
  pub word : Word
  pub gap : List ℕ

-- the words without the gaps
abbrev pub words_in : List Piece → List Word
words_in pieces = map (λ piece. piece.word) pieces

-- the text: the characters of each word, and the gap behind them
abbrev pub gapped : List Piece → List ℕ
gapped [] = []
gapped (p ∷ ps) = p.word.text ++ (p.gap ++ gapped ps)

-- the words as tokens, of which the first begins at the given offset in bytes
abbrev pub located : ℕ → List Piece → List Lexed
located from [] = []
located from (p ∷ ps) = lexed p.word.kind p.word.text from ∷ located (from + size p.word.text + size p.gap) ps

-- the tokens at offsets so much greater
abbrev pub moved : ℕ → List Lexed → List Lexed
moved by tokens = map (λ l. lexed l.kind l.text (by + l.from)) tokens

-- the whole of it is white space and comments; it may be empty
abbrev pub IsGap : List ℕ → Type 0
IsGap gap = Past gap []

-- each word spells a token of its kind, and behind it stands a gap; where that is empty, no word follows
abbrev pub ArePieces : List Piece → Type 0
ArePieces [] = Unit {0}
ArePieces (p ∷ ps) = Spells p.word.kind p.word.text × IsGap p.gap × (p.gap ≡ [] → ps ≡ []) × ArePieces ps
