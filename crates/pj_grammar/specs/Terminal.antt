-- The terminals of the grammar, and their numbers.
use Rattle.std.specs.Prelude.{ℕ, ◌+◌, List, [], ◌∷◌, Option, Some, None, codes, if◌then◌else◌}
use denote.Enum.Declared.{tag_of}
use Rattle.pj_lex.specs.Words.{same}
use Rattle.pj_lex.specs.declared.token.TokenKind.{TokenKind}
use Rattle.pj_lex.specs.declared.token.TokenKind.TheVariants.{Identifier}
use Rattle.pj_lex.specs.contracts.token.TokenKind as kinds
use Rattle.pj_grammar.specs.declared.terminal.ContextualWord.{ContextualWord}
use Rattle.pj_grammar.specs.declared.terminal.ContextualWord.TheVariants.{Non, Sealed, Record, Permits, Var, Yield}
use Rattle.pj_grammar.specs.contracts.terminal.ContextualWord as words
use Rattle.pj_grammar.specs.declared.terminal.Terminal.{Terminal}
use Rattle.pj_grammar.specs.declared.terminal.Terminal.TheVariants.{Token, Word}

-- JLS 3.9: the contextual keywords that the grammar knows; `non` is the first word of `non-sealed`
pub record WordEntry : Type 0 where
  pub text : List ℕ
  pub word : ContextualWord

abbrev pub contextual_words : List WordEntry
contextual_words =
    record { text = codes "non"; word = Non }
    ∷ record { text = codes "sealed"; word = Sealed }
    ∷ record { text = codes "record"; word = Record }
    ∷ record { text = codes "permits"; word = Permits }
    ∷ record { text = codes "var"; word = Var }
    ∷ record { text = codes "yield"; word = Yield }
    ∷ []

-- the word of a text in a table
abbrev pub word_in : List WordEntry → List ℕ → Option ContextualWord
word_in [] text = None
word_in (e ∷ es) text = if same e.text text then Some e.word else word_in es text

-- the contextual word that a text is
abbrev pub word_of : List ℕ → Option ContextualWord
word_of text = word_in contextual_words text

abbrev pub identifier_or : Option ContextualWord → Terminal
identifier_or None = Token Identifier
identifier_or (Some word) = Word word

-- the terminal that a token of this kind and with these characters is
abbrev pub terminal_of : TokenKind → List ℕ → Terminal
terminal_of Identifier text = identifier_or (word_of text)
terminal_of kind text = Token kind

-- The number of a terminal: a kind of token has its place among the kinds, counted from 0, and the words follow.
abbrev pub terminal_number : Terminal → ℕ
terminal_number (Token kind) = tag_of kinds.the_type kind
terminal_number (Word word) = 107 + tag_of words.the_type word
