-- Texts of words with a space behind each, and the tokens that they have.
use Rattle.std.specs.Prelude.{ℕ, ◌+◌, ◌==◌, if◌then◌else◌, List, [], ◌∷◌, ◌++◌, map}
use Rattle.pj_xtokens.specs.Rules.{Spells}
use Rattle.pj_xtokens.specs.Size.{size}
use Rattle.pj_xtokens.specs.Tokens.{Lexed, lexed}
use Rattle.pj_xtokens.specs.declared.token.TokenKind.{TokenKind}

-- a word: what it is to spell, and its characters
pub record Word : Type 0 where
  pub kind : TokenKind
  pub text : List ℕ

-- the word of this kind with these characters
abbrev pub word : TokenKind → List ℕ → Word
word k w = record { kind = k; text = w }

-- the words that tokens are
abbrev pub words_of : List Lexed → List Word
words_of tokens = map (λ l. word l.kind l.text) tokens

-- the text: the characters of each word, and a space (32) behind them
abbrev pub spaced : List Word → List ℕ
spaced [] = []
spaced (w ∷ ws) = w.text ++ 32 ∷ spaced ws

-- the words as tokens, of which the first begins at the given offset in bytes. The space behind a word takes one byte.
abbrev pub placed : ℕ → List Word → List Lexed
placed from [] = []
placed from (w ∷ ws) = lexed w.kind w.text from ∷ placed (from + size w.text + 1) ws

-- each word spells a token of its kind
abbrev pub AreSpelled : List Word → Type 0
AreSpelled [] = Unit {0}
AreSpelled (w ∷ ws) = Spells w.kind w.text × AreSpelled ws

-- XPath 2.0, 3.1.1: a quotation mark (34) within a literal in quotation marks is written twice, any other character once
abbrev pub written : ℕ → List ℕ
written c = if c == 34 then 34 ∷ 34 ∷ [] else c ∷ []

-- the characters with each quotation mark twice
abbrev pub doubled : List ℕ → List ℕ
doubled [] = []
doubled (c ∷ cs) = written c ++ doubled cs

-- the literal in quotation marks of the string that has these characters
abbrev pub literal : List ℕ → List ℕ
literal cs = 34 ∷ (doubled cs ++ 34 ∷ [])
