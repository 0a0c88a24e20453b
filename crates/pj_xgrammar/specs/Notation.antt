-- The notation of the grammar.
--
--   R r.X                what rule X spells
--   t ".."               the sign or the word with this text; a word that has a meaning before a certain token alone, as `for`, is
--                        one before that token
--   name, axis           a name without a meaning of its own, and the name of an axis
--   integer, string      literals
--   lone_slash           `/` behind which no step begins; `t "/"` is one behind which a step begins
--   close                the end of something that nests, which begins behind the first symbol of the production
--   nothing              no symbols
--   left_out ".."        a construct that is left out begins here, with the sign or the word
use Rattle.std.specs.Prelude.{ℕ, List, [], ◌∷◌, Option, Some, None, codes, if◌then◌else◌}
use Prim.Native.String.{String}
use denote.Enum.Declared.{tag_of}
use Rattle.pj_ll.specs.declared.grammar.Symbol.{Symbol}
use Rattle.pj_ll.specs.declared.grammar.Symbol.TheVariants.{Terminal, Rule, LeftOut, Close}
use Rattle.pj_xtokens.specs.Signs.{Entry, signs}
use Rattle.pj_xtokens.specs.declared.token.Sign.{Sign}
use Rattle.pj_xgrammar.specs.Words.{same, word_of}
use Rattle.pj_xgrammar.specs.Terminals.{terminal_number}
use Rattle.pj_xgrammar.specs.declared.word.Word.{Word}
use Rattle.pj_xgrammar.specs.declared.word.Word.TheVariants as w
use Rattle.pj_xgrammar.specs.declared.word.Keyword.TheVariants as k
use Rattle.pj_xgrammar.specs.declared.terminal.Terminal.TheVariants as terminal
use Rattle.pj_xgrammar.specs.declared.rule.Rule as rule
use Rattle.pj_xgrammar.specs.contracts.rule.Rule as rules

-- a rule's number is its place among the rules, counted from 0
abbrev pub rule_number : rule.Rule → ℕ
rule_number r = tag_of rules.the_type r

abbrev pub R : rule.Rule → Symbol
R r = Rule (rule_number r)

-- a number that no terminal has
abbrev pub no_terminal : ℕ
no_terminal = 75

abbrev pub sign_in : List Entry → List ℕ → Option Sign
sign_in [] text = None
sign_in (e ∷ es) text = if same e.text text then Some e.sign else sign_in es text

abbrev pub word_number : Option Word → ℕ
word_number None = no_terminal
word_number (Some (w.Keyword keyword)) = terminal_number (terminal.Keyword keyword)
word_number (Some (w.Phrase phrase)) = terminal_number (terminal.Phrase phrase)

abbrev pub sign_or_word_number : Option Sign → List ℕ → ℕ
sign_or_word_number (Some sign) text = terminal_number (terminal.Sign sign)
sign_or_word_number None text = word_number (word_of text)

-- the number of the terminal that the sign or the word is
abbrev pub number_of : List ℕ → ℕ
number_of text = sign_or_word_number (sign_in signs text) text

abbrev pub t : String → Symbol
t text = Terminal (number_of (codes text))

abbrev pub name : Symbol
name = Terminal (terminal_number terminal.Name)

abbrev pub integer : Symbol
integer = Terminal (terminal_number terminal.Integer)

abbrev pub string : Symbol
string = Terminal (terminal_number terminal.String)

abbrev pub axis : Symbol
axis = Terminal (terminal_number (terminal.Keyword k.Axis))

abbrev pub lone_slash : Symbol
lone_slash = Terminal (terminal_number terminal.LoneSlash)

abbrev pub close : Symbol
close = Close

abbrev pub nothing : List Symbol
nothing = []

abbrev pub left_out : String → Symbol
left_out text = LeftOut (number_of (codes text))

abbrev pub left_out_decimal : Symbol
left_out_decimal = LeftOut (terminal_number terminal.Decimal)

abbrev pub left_out_double : Symbol
left_out_double = LeftOut (terminal_number terminal.Double)
