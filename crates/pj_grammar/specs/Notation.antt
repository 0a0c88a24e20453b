-- The notation of the grammar.
--
--   R r.X               what rule X takes
--   t ".."              the token with this text, a reserved word or a sign
--   w ".."              the identifier with this text, one of the contextual words
--   id                  any identifier
--   all (a ∷ b ∷ [])    a, and then b
--   one_of (a ∷ b ∷ []) a, or else b
--   many a, some a      a as often as it does not fail, from none or from once on
--   maybe a             a, or else nothing
--   list a              one a or more, with commas between
--   ahead a             a follows, and is not taken
--   not_ahead a         a does not follow
--
-- Before ⇐ stands what a rule makes of the nodes of its form: it passes them on, it makes a node over them, it makes one
-- where they are two or more (`joined`), or it is a turn, whose node goes over all nodes before it in the form in which it
-- stands. `fold x (y ∷ z ∷ [])` is x and then the turns y and z, as often as one of them does not fail.
use Rattle.std.specs.Prelude.{ℕ, List, [], ◌∷◌, ◌++◌, Option, Some, None, codes}
use Prim.Native.String.{String}
use denote.Enum.Declared.{tag_of}
use Rattle.pj_peg_grammar.specs.Form.{Form, token, rule, never, seq_all, choice_all, star}
use Rattle.pj_tree.specs.declared.kind.Kind.{Kind}
use Rattle.pj_shape.specs.declared.shape.Shape.{Shape}
use Rattle.pj_shape.specs.declared.shape.Shape.TheVariants.{Pass, Node, Joined, Turn, Segment}
use Rattle.pj_lex.specs.Words.{kind_in, reserved_words, signs}
use Rattle.pj_lex.specs.declared.token.TokenKind.{TokenKind}
use Rattle.pj_lex.specs.declared.token.TokenKind.TheVariants as k
use Rattle.pj_grammar.specs.Terminal.{word_of, terminal_number}
use Rattle.pj_grammar.specs.declared.terminal.ContextualWord.{ContextualWord}
use Rattle.pj_grammar.specs.declared.terminal.Terminal.{Terminal}
use Rattle.pj_grammar.specs.declared.terminal.Terminal.TheVariants.{Token, Word}
use Rattle.pj_grammar.specs.declared.rule.Rule.{Rule}
use Rattle.pj_grammar.specs.contracts.rule.Rule as rules

-- a rule's number is its place among the rules, counted from 0
abbrev pub rule_number : Rule → ℕ
rule_number name = tag_of rules.the_type name

abbrev pub R : Rule → Form
R name = rule (rule_number name)

-- ---- tokens

abbrev pub terminal : Terminal → Form
terminal x = token (terminal_number x)

abbrev pub token_form : Option TokenKind → Form
token_form None = never
token_form (Some kind) = terminal (Token kind)

abbrev pub word_form : Option ContextualWord → Form
word_form None = never
word_form (Some word) = terminal (Word word)

abbrev pub t : String → Form
t text = token_form (kind_in (reserved_words ++ signs) (codes text))

abbrev pub w : String → Form
w text = word_form (word_of (codes text))

abbrev pub int_literal : Form
int_literal = terminal (Token k.IntLiteral)

abbrev pub float_literal : Form
float_literal = terminal (Token k.FloatLiteral)

abbrev pub char_literal : Form
char_literal = terminal (Token k.CharLiteral)

abbrev pub string_literal : Form
string_literal = terminal (Token k.StringLiteral)

abbrev pub text_block : Form
text_block = terminal (Token k.TextBlock)

-- `>` that neither `>` nor `=` follows
abbrev pub greater : Form
greater = terminal (Token k.Greater)

-- `>` that `>` or `=` follows
abbrev pub greater_joined : Form
greater_joined = terminal (Token k.GreaterJoined)

-- ---- forms

abbrev pub all : List Form → Form
all = seq_all

abbrev pub one_of : List Form → Form
one_of = choice_all

abbrev pub many : Form → Form
many = star

abbrev pub some : Form → Form
some part = all (part ∷ many part ∷ [])

abbrev pub list : Form → Form
list part = all (part ∷ many (all (t "," ∷ part ∷ [])) ∷ [])

abbrev pub id : Form
id = one_of (terminal (Token k.Identifier) ∷ w "non" ∷ w "sealed" ∷ w "record" ∷ w "permits" ∷ w "var" ∷ w "yield" ∷ [])

-- ---- what rules make

abbrev pub passes : Shape
passes = Pass

abbrev pub node : Kind → Shape
node = Node

abbrev pub joined : Kind → Shape
joined = Joined

abbrev pub turn : Kind → Shape
turn = Turn

-- a turn, but a leading word of a package makes nothing
abbrev pub segment : Kind → Shape
segment = Segment

-- what a rule makes, and its form
pub record Row : Type 0 where
  pub makes : Shape
  pub form : Form

infix 5 ◌⇐◌
abbrev pub ◌⇐◌ : Shape → Form → Row
m ⇐ f = record { makes = m; form = f }

abbrev pub fold : Form → List Form → Row
fold first turns = passes ⇐ all (first ∷ many (one_of turns) ∷ [])
