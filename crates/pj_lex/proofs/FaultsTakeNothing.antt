-- Where a rule for tokens spells a word, no rule for faults takes it.
use Rattle.std.proofs.Common.{◌≡◌, ℕ, Bool, true, false, cond, List, [], ◌∷◌, Option, Some, None, sym, refl, ap, ◌∙◌, subst}
use Rattle.pj_lex.specs.Characters.{CharSet, holds}
use Rattle.pj_lex.specs.Pattern.{Pattern, Nothing}
use Rattle.pj_lex.specs.Rules.{Rule, rules, FirstOf, is_fault, token_rules}
use Rattle.pj_lex.specs.States.{step}
use Rattle.pj_lex.specs.declared.category.Category.{Category}
use Rattle.pj_lex.specs.declared.state.State.{State}
use Rattle.pj_lex.specs.declared.state.State.TheVariants as s
use Rattle.pj_lex.specs.declared.sign.SignState.{SignState}
use Rattle.pj_lex.specs.declared.sign.SignState.TheVariants as sign
use Rattle.pj_lex.specs.declared.integer.IntegerState.{IntegerState}
use Rattle.pj_lex.specs.declared.integer.IntegerState.TheVariants as int
use Rattle.pj_lex.specs.declared.hex.HexState.{HexState}
use Rattle.pj_lex.specs.declared.hex.HexState.TheVariants as hex
use Rattle.pj_lex.specs.declared.float.FloatState.{FloatState}
use Rattle.pj_lex.specs.declared.float.FloatState.TheVariants as float
use Rattle.pj_lex.specs.declared.char_literal.CharState.{CharState}
use Rattle.pj_lex.specs.declared.char_literal.CharState.TheVariants as char
use Rattle.pj_lex.specs.declared.string_literal.StringState.{StringState}
use Rattle.pj_lex.specs.declared.string_literal.StringState.TheVariants as string
use Rattle.pj_lex.specs.declared.text_block.BlockState.{BlockState}
use Rattle.pj_lex.specs.declared.text_block.BlockState.TheVariants as block
use Rattle.pj_lex.specs.declared.comment.CommentState.{CommentState}
use Rattle.pj_lex.specs.declared.comment.CommentState.TheVariants as comment
use Rattle.pj_lex.proofs.Follows.{goes_on}
use Rattle.pj_lex.proofs.Meaning.{meaning, meaning_of}
use Rattle.pj_patterns.specs.Derivatives.{derive, derive_rules, keep, spells_none}
use Rattle.pj_patterns.specs.Derived.{first_of_from, first_of_to, spelled_from, spelled_to}

abbrev first_some : Option Category → Option Category → Option Category
first_some None o = o
first_some (Some c) o = Some c

-- what the rules for tokens that are left behind a word spell there, all rules spell
abbrev Keeps : State → Type 0
Keeps q = first_some (spells_none (token_rules (meaning q))) (spells_none (meaning q)) ≡ spells_none (meaning q)

sign_keeps : (q : SignState) → Keeps (s.Sign q)
unfolding rules meaning
sign_keeps sign.LeftParenthesis = refl
sign_keeps sign.RightParenthesis = refl
sign_keeps sign.LeftBrace = refl
sign_keeps sign.RightBrace = refl
sign_keeps sign.LeftBracket = refl
sign_keeps sign.RightBracket = refl
sign_keeps sign.Semicolon = refl
sign_keeps sign.Comma = refl
sign_keeps sign.Dot = refl
sign_keeps sign.Ellipsis = refl
sign_keeps sign.At = refl
sign_keeps sign.ColonColon = refl
sign_keeps sign.Assign = refl
sign_keeps sign.Less = refl
sign_keeps sign.Bang = refl
sign_keeps sign.Tilde = refl
sign_keeps sign.Question = refl
sign_keeps sign.Colon = refl
sign_keeps sign.Arrow = refl
sign_keeps sign.EqualEqual = refl
sign_keeps sign.LessEqual = refl
sign_keeps sign.BangEqual = refl
sign_keeps sign.AndAnd = refl
sign_keeps sign.OrOr = refl
sign_keeps sign.PlusPlus = refl
sign_keeps sign.MinusMinus = refl
sign_keeps sign.Plus = refl
sign_keeps sign.Minus = refl
sign_keeps sign.Star = refl
sign_keeps sign.Slash = refl
sign_keeps sign.Ampersand = refl
sign_keeps sign.Bar = refl
sign_keeps sign.Caret = refl
sign_keeps sign.Percent = refl
sign_keeps sign.LessLess = refl
sign_keeps sign.PlusAssign = refl
sign_keeps sign.MinusAssign = refl
sign_keeps sign.StarAssign = refl
sign_keeps sign.SlashAssign = refl
sign_keeps sign.AmpersandAssign = refl
sign_keeps sign.BarAssign = refl
sign_keeps sign.CaretAssign = refl
sign_keeps sign.PercentAssign = refl
sign_keeps sign.LessLessAssign = refl
sign_keeps sign.Greater = refl
sign_keeps sign.DotDot = refl

int_keeps : (q : IntegerState) → Keeps (s.Integer q)
unfolding rules meaning
int_keeps int.Zero = refl
int_keeps int.Octal = refl
int_keeps int.OctalUnderscore = refl
int_keeps int.PointAwaited = refl
int_keeps int.PointAwaitedUnderscore = refl
int_keeps int.Decimal = refl
int_keeps int.DecimalUnderscore = refl
int_keeps int.BinaryMark = refl
int_keeps int.Binary = refl
int_keeps int.BinaryUnderscore = refl
int_keeps int.IntegerEnd = refl

hex_keeps : (q : HexState) → Keeps (s.Hex q)
unfolding rules meaning
hex_keeps hex.HexMark = refl
hex_keeps hex.Hex = refl
hex_keeps hex.HexUnderscore = refl
hex_keeps hex.HexPoint = refl
hex_keeps hex.HexPointFirst = refl
hex_keeps hex.HexFraction = refl
hex_keeps hex.HexFractionUnderscore = refl

float_keeps : (q : FloatState) → Keeps (s.Float q)
unfolding rules meaning
float_keeps float.Point = refl
float_keeps float.Fraction = refl
float_keeps float.FractionUnderscore = refl
float_keeps float.Exponent = refl
float_keeps float.ExponentSign = refl
float_keeps float.ExponentDigit = refl
float_keeps float.ExponentUnderscore = refl
float_keeps float.FloatEnd = refl

char_keeps : (q : CharState) → Keeps (s.Char q)
unfolding rules meaning
char_keeps char.Apostrophe = refl
char_keeps char.CharBody = refl
char_keeps char.CharEscape = refl
char_keeps char.CharOctal = refl
char_keeps char.CharOctalShort = refl
char_keeps char.CharEnd = refl
char_keeps char.BadCharBody = refl

string_keeps : (q : StringState) → Keeps (s.Text q)
unfolding rules meaning
string_keeps string.Quote = refl
string_keeps string.EmptyString = refl
string_keeps string.StringBody = refl
string_keeps string.StringEscape = refl
string_keeps string.StringEnd = refl
string_keeps string.BadStringBody = refl
string_keeps string.BadStringEscape = refl

block_keeps : (q : BlockState) → Keeps (s.Block q)
unfolding rules meaning
block_keeps block.BlockOpening = refl
block_keeps block.BlockOpeningLine = refl
block_keeps block.BlockBody = refl
block_keeps block.BlockQuote = refl
block_keeps block.BlockQuotes = refl
block_keeps block.BlockEscape = refl
block_keeps block.BlockEnd = refl
block_keeps block.BadBlockBody = refl
block_keeps block.BadBlockQuote = refl
block_keeps block.BadBlockQuotes = refl
block_keeps block.BadBlockEscape = refl

comment_keeps : (q : CommentState) → Keeps (s.Comment q)
unfolding rules meaning
comment_keeps comment.LineComment = refl
comment_keeps comment.CommentOpening = refl
comment_keeps comment.CommentBody = refl
comment_keeps comment.CommentStar = refl
comment_keeps comment.CommentEnd = refl

start_keeps : Keeps s.Start
unfolding rules meaning
start_keeps = refl

name_keeps : Keeps s.Name
unfolding rules meaning
name_keeps = refl

bad_end_keeps : Keeps s.BadEnd
unfolding rules meaning
bad_end_keeps = refl

keeps : (q : State) → Keeps q
keeps s.Start = start_keeps
keeps s.Name = name_keeps
keeps s.BadEnd = bad_end_keeps
keeps (s.Sign q) = sign_keeps q
keeps (s.Integer q) = int_keeps q
keeps (s.Hex q) = hex_keeps q
keeps (s.Float q) = float_keeps q
keeps (s.Char q) = char_keeps q
keeps (s.Text q) = string_keeps q
keeps (s.Block q) = block_keeps q
keeps (s.Comment q) = comment_keeps q

kept : (q : State) (c : Category) → spells_none (token_rules (meaning q)) ≡ Some c → spells_none (meaning q) ≡ Some c
kept q c e = sym (keeps q) ∙ ap (λ (o : Option Category). first_some o (spells_none (meaning q))) e

-- taking the rules for faults away, and reading a character
either_way : (b : Bool) (rs : List Rule) → cond b rs rs ≡ rs
either_way true rs = refl
either_way false rs = refl

tokens_keep : (c : Category) (p : Pattern) (rs : List Rule) → token_rules (keep c p rs) ≡ cond (is_fault c) (token_rules rs) (keep c p (token_rules rs))
tokens_keep c Nothing rs = sym (either_way (is_fault c) (token_rules rs))
tokens_keep c p rs = refl

derive_choice : (is : CharSet → Bool) (b : Bool) (r : Rule) (rs : List Rule) → cond b (derive_rules is rs) (keep r.kind (derive is r.pattern) (derive_rules is rs)) ≡ derive_rules is (cond b rs (r ∷ rs))
derive_choice is true r rs = refl
derive_choice is false r rs = refl

tokens_derive : (is : CharSet → Bool) (rs : List Rule) → token_rules (derive_rules is rs) ≡ derive_rules is (token_rules rs)
tokens_derive is [] = refl
tokens_derive is (r ∷ rs) =
    tokens_keep r.kind (derive is r.pattern) (derive_rules is rs)
    ∙ ap (λ (x : List Rule). cond (is_fault r.kind) x (keep r.kind (derive is r.pattern) x)) (tokens_derive is rs)
    ∙ derive_choice is (is_fault r.kind) r (token_rules rs)

-- behind any word
behind_step : (o : Option State) (v : List ℕ) (c : Category) → ((q : State) → FirstOf (token_rules (meaning q)) v c → FirstOf (meaning q) v c) → FirstOf (token_rules (meaning_of o)) v c → FirstOf (meaning_of o) v c
behind_step None v c go f = f
behind_step (Some q) v c go f = go q f

all_keep : (w : List ℕ) (q : State) (c : Category) → FirstOf (token_rules (meaning q)) w c → FirstOf (meaning q) w c
all_keep [] q c f = spelled_to holds (meaning q) c (kept q c (spelled_from holds (token_rules (meaning q)) c f))
all_keep (d ∷ w) q c f =
    let is : CharSet → Bool = λ s. holds s d in
    let behind : FirstOf (derive_rules is (token_rules (meaning q))) w c = first_of_from holds d (token_rules (meaning q)) w c f in
    let tokens : FirstOf (token_rules (meaning_of (step is q))) w c =
    subst (λ (rs : List Rule). FirstOf rs w c) (sym (tokens_derive is (meaning q)) ∙ ap token_rules (goes_on d q)) behind in
    let all : FirstOf (meaning_of (step is q)) w c = behind_step (step is q) w c (λ r g. all_keep w r c g) tokens in
    first_of_to holds d (meaning q) w c (subst (λ (rs : List Rule). FirstOf rs w c) (sym (goes_on d q)) all)

pub faults_take_nothing : (w : List ℕ) (c : Category) → FirstOf (token_rules rules) w c → FirstOf rules w c
unfolding meaning
faults_take_nothing w c f = all_keep w s.Start c f
