-- The tokens of a text, and its words: the tokens that a grammar sees.
use Rattle.std.specs.Prelude.{ℕ, Bool, true, false, not, List, [], ◌∷◌, ◌++◌, map, filter, Ok}
use Rattle.std.specs.Str.{chars}
use Rattle.pj_tree.specs.declared.node.Span.{Span}
use Rattle.pj_lex.specs.declared.token.Token.{Token}
use Rattle.pj_lex.specs.declared.token.TokenKind.{TokenKind}
use Rattle.pj_lex.specs.declared.token.TokenKind.TheVariants.{Comment}
use Rattle.pj_lex.specs.declared.token.LexFault.{LexFault}
use Rattle.pj_lex.specs.Tokens.{Lexed, Tokens, fault_of}
use Rattle.pj_grammar.specs.Terminal.{terminal_of, terminal_number}

-- a token: what it is, its characters, and where it stands
pub record TokenSeen : Type 0 where
  pub kind : TokenKind
  pub text : List ℕ
  pub span : Span

-- what a token of the program is
abbrev pub seen : Token → TokenSeen
seen t = record { kind = t.kind; text = chars t.text.now; span = t.span }

-- a token among what the lexical grammar gives of a text
abbrev pub as_lexed : TokenSeen → Lexed
as_lexed t = record { what = Ok t.kind; text = t.text; from = t.span.from; to = t.span.to }

-- The text has these tokens, comments included, and no fault (JLS 3).
abbrev pub AreTokens : List ℕ → List TokenSeen → Type 0
AreTokens text ts = Tokens 0 (chars text) (map as_lexed ts)

-- The fault ends the tokens of the text.
abbrev pub EndsInFault : List ℕ → LexFault → Type 0
EndsInFault text f = (ts : List TokenSeen) × Tokens 0 (chars text) (map as_lexed ts ++ fault_of f.kind f.offset ∷ [])

abbrev pub is_comment : TokenKind → Bool
is_comment Comment = true
is_comment _ = false

-- the tokens that are no comments, which the grammar sees (JLS 3.7)
abbrev pub words : List TokenSeen → List TokenSeen
words ts = filter (λ t. not (is_comment t.kind)) ts

-- where they stand
abbrev pub spans : List TokenSeen → List Span
spans ts = map (λ t. t.span) ts

-- what they are in the grammar
abbrev pub terminals : List TokenSeen → List ℕ
terminals ts = map (λ t. terminal_number (terminal_of t.kind t.text)) ts
