-- The terminals of the grammar: what a token is for it, given what stands behind. One token of lookahead is enough for the
-- grammar then.
use Rattle.std.specs.Prelude.{ℕ, ◌+◌, Bool, true, false, List, [], ◌∷◌, Option, Some, None, codes, map, if◌then◌else◌}
use denote.Enum.Declared.{tag_of}
use Rattle.pj_xtokens.specs.Tokens.{Lexed}
use Rattle.pj_xtokens.specs.declared.token.TokenKind.{TokenKind}
use Rattle.pj_xtokens.specs.declared.token.TokenKind.TheVariants as t
use Rattle.pj_xtokens.specs.declared.token.Sign.{Sign}
use Rattle.pj_xtokens.specs.declared.token.Sign.TheVariants as s
use Rattle.pj_xtokens.specs.contracts.token.Sign as signs
use Rattle.pj_xgrammar.specs.Words.{same, word_of}
use Rattle.pj_xgrammar.specs.declared.word.Word.{Word}
use Rattle.pj_xgrammar.specs.declared.word.Word.TheVariants as w
use Rattle.pj_xgrammar.specs.declared.word.Phrase.{Phrase}
use Rattle.pj_xgrammar.specs.declared.word.Phrase.TheVariants as p
use Rattle.pj_xgrammar.specs.contracts.word.Keyword as keywords
use Rattle.pj_xgrammar.specs.contracts.word.Phrase as phrases
use Rattle.pj_xgrammar.specs.declared.terminal.Behind.{Behind}
use Rattle.pj_xgrammar.specs.declared.terminal.Behind.TheVariants as b
use Rattle.pj_xgrammar.specs.declared.terminal.Terminal.{Terminal}
use Rattle.pj_xgrammar.specs.declared.terminal.Terminal.TheVariants as terminal

-- what a token is for the one before it
abbrev pub name_behind : List ℕ → Behind
name_behind text = if same (codes "as") text then b.As else if same (codes "of") text then b.Of else b.Name

abbrev pub kind_behind : TokenKind → List ℕ → Behind
kind_behind t.Name text = name_behind text
kind_behind t.Integer text = b.Literal
kind_behind t.Decimal text = b.Literal
kind_behind t.Double text = b.Literal
kind_behind t.String text = b.Literal
kind_behind (t.Sign sign) text = b.Sign sign

abbrev pub behind_of : Lexed → Behind
behind_of x = kind_behind x.kind x.text

-- what the first of some tokens is for the one before it, and if there is none, what stands behind them
abbrev pub first_behind : Behind → List Lexed → Behind
first_behind end [] = end
first_behind end (x ∷ xs) = behind_of x

-- XPath 2.0, A.1.2, leading-lone-slash: what can begin a step makes a `/` before it the beginning of a longer path. A `[` and a `?`
-- can in XPath 3.1, as an array and a look-up, which are left out here.
abbrev pub sign_begins_step : Sign → Bool
sign_begins_step s.LeftParenthesis = true
sign_begins_step s.LeftBracket = true
sign_begins_step s.Dot = true
sign_begins_step s.DotDot = true
sign_begins_step s.Dollar = true
sign_begins_step s.Star = true
sign_begins_step s.Question = true
sign_begins_step s.At = true
sign_begins_step _ = false

abbrev pub begins_step : Behind → Bool
begins_step b.End = false
begins_step b.As = true
begins_step b.Of = true
begins_step b.Name = true
begins_step b.Literal = true
begins_step (b.Sign sign) = sign_begins_step sign

abbrev pub is_dollar : Behind → Bool
is_dollar (b.Sign s.Dollar) = true
is_dollar _ = false

abbrev pub is_parenthesis : Behind → Bool
is_parenthesis (b.Sign s.LeftParenthesis) = true
is_parenthesis _ = false

abbrev pub is_brace : Behind → Bool
is_brace (b.Sign s.LeftBrace) = true
is_brace _ = false

abbrev pub is_as : Behind → Bool
is_as b.As = true
is_as _ = false

abbrev pub is_of : Behind → Bool
is_of b.Of = true
is_of _ = false

-- XPath 2.0, A.2.2 and A.3; XPath 3.1, A.2.2: the words that have a meaning before one token alone
abbrev pub makes_phrase : Phrase → Behind → Bool
makes_phrase p.For = is_dollar
makes_phrase p.Let = is_dollar
makes_phrase p.Some = is_dollar
makes_phrase p.Every = is_dollar
makes_phrase p.If = is_parenthesis
makes_phrase p.Function = is_parenthesis
makes_phrase p.Map = is_brace
makes_phrase p.Array = is_brace
makes_phrase p.InstanceOf = is_of
makes_phrase p.CastAs = is_as
makes_phrase p.CastableAs = is_as
makes_phrase p.TreatAs = is_as

abbrev pub word_terminal : Option Word → Behind → Terminal
word_terminal None behind = terminal.Name
word_terminal (Some (w.Keyword keyword)) behind = terminal.Keyword keyword
word_terminal (Some (w.Phrase phrase)) behind = if makes_phrase phrase behind then terminal.Phrase phrase else terminal.Name

abbrev pub sign_terminal : Sign → Behind → Terminal
sign_terminal s.Slash behind = if begins_step behind then terminal.Sign s.Slash else terminal.LoneSlash
sign_terminal sign behind = terminal.Sign sign

abbrev pub kind_terminal : TokenKind → List ℕ → Behind → Terminal
kind_terminal t.Name text behind = word_terminal (word_of text) behind
kind_terminal t.Integer text behind = terminal.Integer
kind_terminal t.Decimal text behind = terminal.Decimal
kind_terminal t.Double text behind = terminal.Double
kind_terminal t.String text behind = terminal.String
kind_terminal (t.Sign sign) text behind = sign_terminal sign behind

-- the terminal that a token is before this
abbrev pub terminal_of : Lexed → Behind → Terminal
terminal_of x behind = kind_terminal x.kind x.text behind

-- the terminals of tokens behind whose last one this stands
abbrev pub terminals_before : Behind → List Lexed → List Terminal
terminals_before end [] = []
terminals_before end (x ∷ xs) = terminal_of x (first_behind end xs) ∷ terminals_before end xs

-- The number of a terminal: signs, keywords and phrases have their places among their like, counted from the first one's.
abbrev pub terminal_number : Terminal → ℕ
terminal_number terminal.Name = 0
terminal_number terminal.Integer = 1
terminal_number terminal.Decimal = 2
terminal_number terminal.Double = 3
terminal_number terminal.String = 4
terminal_number terminal.LoneSlash = 5
terminal_number (terminal.Sign sign) = 6 + tag_of signs.the_type sign
terminal_number (terminal.Keyword keyword) = 39 + tag_of keywords.the_type keyword
terminal_number (terminal.Phrase phrase) = 63 + tag_of phrases.the_type phrase

-- the numbers of the terminals of a text's tokens
abbrev pub numbers_before : Behind → List Lexed → List ℕ
numbers_before end tokens = map terminal_number (terminals_before end tokens)

abbrev pub numbers : List Lexed → List ℕ
numbers tokens = numbers_before b.End tokens
