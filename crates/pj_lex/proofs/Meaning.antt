-- What each state of the scanner stands for: the rules that are left behind a word that leads to it.
use Rattle.std.proofs.Common.{ℕ, suc, zero, Bool, true, false, ◌==◌, ◌||◌, List, [], ◌∷◌, Option, Some, None}
use Rattle.std.specs.Char.{is_ascii_alphabetic, is_ascii_alphanumeric}
use Rattle.pj_lex.specs.Characters.{CharSet, JavaLetter, JavaLetterOrDigit, InputCharacter, SingleCharacter, StringCharacter, TextBlockCharacter, NotEscape, NotStar, NotStarNotSlash, AnyCharacter, holds}
use Rattle.pj_lex.specs.Rules.{Rule, rules}
use Rattle.pj_lex.specs.States.{step}
use Rattle.pj_lex.specs.declared.state.State.{State}
use Rattle.pj_lex.specs.declared.state.State.TheVariants as s
use Rattle.pj_lex.specs.declared.sign.SignState.{SignState}
use Rattle.pj_lex.specs.declared.sign.SignState.TheVariants as sign
use Rattle.pj_lex.specs.declared.integer.IntegerState.{IntegerState}
use Rattle.pj_lex.specs.declared.integer.IntegerState.TheVariants as int
use Rattle.pj_lex.specs.declared.hex.HexState.{HexState}
use Rattle.pj_lex.specs.declared.hex.HexState.TheVariants as hex
use Rattle.pj_lex.specs.declared.float.FloatState.{FloatState}
use Rattle.pj_lex.specs.declared.float.FloatState.TheVariants as float
use Rattle.pj_lex.specs.declared.char_literal.CharState.{CharState}
use Rattle.pj_lex.specs.declared.char_literal.CharState.TheVariants as char
use Rattle.pj_lex.specs.declared.string_literal.StringState.{StringState}
use Rattle.pj_lex.specs.declared.string_literal.StringState.TheVariants as string
use Rattle.pj_lex.specs.declared.text_block.BlockState.{BlockState}
use Rattle.pj_lex.specs.declared.text_block.BlockState.TheVariants as block
use Rattle.pj_lex.specs.declared.comment.CommentState.{CommentState}
use Rattle.pj_lex.specs.declared.comment.CommentState.TheVariants as comment
use Rattle.pj_patterns.specs.Derivatives.{derive_rules}

-- the sets that an ASCII character is in
abbrev pub ascii : ℕ → CharSet → Bool
ascii c JavaLetter = is_ascii_alphabetic c || (c == 95) || (c == 36)
ascii c JavaLetterOrDigit = (is_ascii_alphanumeric c || (c == 95)) || (c == 95) || (c == 36)
ascii c s = holds s c

-- a word that leads to the state
abbrev pub sign_word : SignState → List ℕ
sign_word sign.LeftParenthesis = (40 ∷ [])
sign_word sign.RightParenthesis = (41 ∷ [])
sign_word sign.LeftBrace = (123 ∷ [])
sign_word sign.RightBrace = (125 ∷ [])
sign_word sign.LeftBracket = (91 ∷ [])
sign_word sign.RightBracket = (93 ∷ [])
sign_word sign.Semicolon = (59 ∷ [])
sign_word sign.Comma = (44 ∷ [])
sign_word sign.Dot = (46 ∷ [])
sign_word sign.Ellipsis = (46 ∷ 46 ∷ 46 ∷ [])
sign_word sign.At = (64 ∷ [])
sign_word sign.ColonColon = (58 ∷ 58 ∷ [])
sign_word sign.Assign = (61 ∷ [])
sign_word sign.Less = (60 ∷ [])
sign_word sign.Bang = (33 ∷ [])
sign_word sign.Tilde = (126 ∷ [])
sign_word sign.Question = (63 ∷ [])
sign_word sign.Colon = (58 ∷ [])
sign_word sign.Arrow = (45 ∷ 62 ∷ [])
sign_word sign.EqualEqual = (61 ∷ 61 ∷ [])
sign_word sign.LessEqual = (60 ∷ 61 ∷ [])
sign_word sign.BangEqual = (33 ∷ 61 ∷ [])
sign_word sign.AndAnd = (38 ∷ 38 ∷ [])
sign_word sign.OrOr = (124 ∷ 124 ∷ [])
sign_word sign.PlusPlus = (43 ∷ 43 ∷ [])
sign_word sign.MinusMinus = (45 ∷ 45 ∷ [])
sign_word sign.Plus = (43 ∷ [])
sign_word sign.Minus = (45 ∷ [])
sign_word sign.Star = (42 ∷ [])
sign_word sign.Slash = (47 ∷ [])
sign_word sign.Ampersand = (38 ∷ [])
sign_word sign.Bar = (124 ∷ [])
sign_word sign.Caret = (94 ∷ [])
sign_word sign.Percent = (37 ∷ [])
sign_word sign.LessLess = (60 ∷ 60 ∷ [])
sign_word sign.PlusAssign = (43 ∷ 61 ∷ [])
sign_word sign.MinusAssign = (45 ∷ 61 ∷ [])
sign_word sign.StarAssign = (42 ∷ 61 ∷ [])
sign_word sign.SlashAssign = (47 ∷ 61 ∷ [])
sign_word sign.AmpersandAssign = (38 ∷ 61 ∷ [])
sign_word sign.BarAssign = (124 ∷ 61 ∷ [])
sign_word sign.CaretAssign = (94 ∷ 61 ∷ [])
sign_word sign.PercentAssign = (37 ∷ 61 ∷ [])
sign_word sign.LessLessAssign = (60 ∷ 60 ∷ 61 ∷ [])
sign_word sign.Greater = (62 ∷ [])
sign_word sign.DotDot = (46 ∷ 46 ∷ [])

abbrev pub int_word : IntegerState → List ℕ
int_word int.Zero = (48 ∷ [])
int_word int.Octal = (48 ∷ 48 ∷ [])
int_word int.OctalUnderscore = (48 ∷ 95 ∷ [])
int_word int.PointAwaited = (48 ∷ 56 ∷ [])
int_word int.PointAwaitedUnderscore = (48 ∷ 56 ∷ 95 ∷ [])
int_word int.Decimal = (49 ∷ [])
int_word int.DecimalUnderscore = (49 ∷ 95 ∷ [])
int_word int.BinaryMark = (48 ∷ 66 ∷ [])
int_word int.Binary = (48 ∷ 66 ∷ 48 ∷ [])
int_word int.BinaryUnderscore = (48 ∷ 66 ∷ 48 ∷ 95 ∷ [])
int_word int.IntegerEnd = (48 ∷ 76 ∷ [])

abbrev pub hex_word : HexState → List ℕ
hex_word hex.HexMark = (48 ∷ 88 ∷ [])
hex_word hex.Hex = (48 ∷ 88 ∷ 48 ∷ [])
hex_word hex.HexUnderscore = (48 ∷ 88 ∷ 48 ∷ 95 ∷ [])
hex_word hex.HexPoint = (48 ∷ 88 ∷ 48 ∷ 46 ∷ [])
hex_word hex.HexPointFirst = (48 ∷ 88 ∷ 46 ∷ [])
hex_word hex.HexFraction = (48 ∷ 88 ∷ 46 ∷ 48 ∷ [])
hex_word hex.HexFractionUnderscore = (48 ∷ 88 ∷ 46 ∷ 48 ∷ 95 ∷ [])

abbrev pub float_word : FloatState → List ℕ
float_word float.Point = (48 ∷ 46 ∷ [])
float_word float.Fraction = (46 ∷ 48 ∷ [])
float_word float.FractionUnderscore = (46 ∷ 48 ∷ 95 ∷ [])
float_word float.Exponent = (46 ∷ 48 ∷ 69 ∷ [])
float_word float.ExponentSign = (46 ∷ 48 ∷ 69 ∷ 43 ∷ [])
float_word float.ExponentDigit = (46 ∷ 48 ∷ 69 ∷ 48 ∷ [])
float_word float.ExponentUnderscore = (46 ∷ 48 ∷ 69 ∷ 48 ∷ 95 ∷ [])
float_word float.FloatEnd = (46 ∷ 48 ∷ 68 ∷ [])

abbrev pub char_word : CharState → List ℕ
char_word char.Apostrophe = (39 ∷ [])
char_word char.CharBody = (39 ∷ 97 ∷ [])
char_word char.CharEscape = (39 ∷ 92 ∷ [])
char_word char.CharOctal = (39 ∷ 92 ∷ 48 ∷ [])
char_word char.CharOctalShort = (39 ∷ 92 ∷ 52 ∷ [])
char_word char.CharEnd = (39 ∷ 97 ∷ 39 ∷ [])
char_word char.BadCharBody = (39 ∷ 92 ∷ 113 ∷ [])

abbrev pub string_word : StringState → List ℕ
string_word string.Quote = (34 ∷ [])
string_word string.EmptyString = (34 ∷ 34 ∷ [])
string_word string.StringBody = (34 ∷ 97 ∷ [])
string_word string.StringEscape = (34 ∷ 92 ∷ [])
string_word string.StringEnd = (34 ∷ 97 ∷ 34 ∷ [])
string_word string.BadStringBody = (34 ∷ 92 ∷ 113 ∷ [])
string_word string.BadStringEscape = (34 ∷ 92 ∷ 113 ∷ 92 ∷ [])

abbrev pub block_word : BlockState → List ℕ
block_word block.BlockOpening = (34 ∷ 34 ∷ 34 ∷ [])
block_word block.BlockOpeningLine = (34 ∷ 34 ∷ 34 ∷ 32 ∷ [])
block_word block.BlockBody = (34 ∷ 34 ∷ 34 ∷ 10 ∷ [])
block_word block.BlockQuote = (34 ∷ 34 ∷ 34 ∷ 10 ∷ 34 ∷ [])
block_word block.BlockQuotes = (34 ∷ 34 ∷ 34 ∷ 10 ∷ 34 ∷ 34 ∷ [])
block_word block.BlockEscape = (34 ∷ 34 ∷ 34 ∷ 10 ∷ 92 ∷ [])
block_word block.BlockEnd = (34 ∷ 34 ∷ 34 ∷ 10 ∷ 34 ∷ 34 ∷ 34 ∷ [])
block_word block.BadBlockBody = (34 ∷ 34 ∷ 34 ∷ 10 ∷ 92 ∷ 113 ∷ [])
block_word block.BadBlockQuote = (34 ∷ 34 ∷ 34 ∷ 10 ∷ 92 ∷ 113 ∷ 34 ∷ [])
block_word block.BadBlockQuotes = (34 ∷ 34 ∷ 34 ∷ 10 ∷ 92 ∷ 113 ∷ 34 ∷ 34 ∷ [])
block_word block.BadBlockEscape = (34 ∷ 34 ∷ 34 ∷ 10 ∷ 92 ∷ 113 ∷ 92 ∷ [])

abbrev pub comment_word : CommentState → List ℕ
comment_word comment.LineComment = (47 ∷ 47 ∷ [])
comment_word comment.CommentOpening = (47 ∷ 42 ∷ [])
comment_word comment.CommentBody = (47 ∷ 42 ∷ 97 ∷ [])
comment_word comment.CommentStar = (47 ∷ 42 ∷ 42 ∷ [])
comment_word comment.CommentEnd = (47 ∷ 42 ∷ 42 ∷ 47 ∷ [])

abbrev pub word_to : State → List ℕ
word_to s.Start = []
word_to s.Name = (97 ∷ [])
word_to s.BadEnd = (39 ∷ 92 ∷ 113 ∷ 39 ∷ [])
word_to (s.Sign q) = sign_word q
word_to (s.Integer q) = int_word q
word_to (s.Hex q) = hex_word q
word_to (s.Float q) = float_word q
word_to (s.Char q) = char_word q
word_to (s.Text q) = string_word q
word_to (s.Block q) = block_word q
word_to (s.Comment q) = comment_word q

-- the rules behind a word of ASCII characters
abbrev pub behind_word : List ℕ → List Rule → List Rule
behind_word [] rs = rs
behind_word (c ∷ cs) rs = behind_word cs (derive_rules (ascii c) rs)

unfoldable pub meaning : State → List Rule
meaning q = behind_word (word_to q) rules

abbrev pub meaning_of : Option State → List Rule
meaning_of None = []
meaning_of (Some q) = meaning q

-- the values below a number
abbrev pub table : (ℕ → List Rule) → ℕ → List (List Rule)
table f zero = []
table f (suc n) = f n ∷ table f n

abbrev pub left_behind : List Rule → List (List Rule)
left_behind rs = table (λ c. derive_rules (ascii c) rs) 128

abbrev pub led_to : State → List (List Rule)
led_to q = table (λ c. meaning_of (step (ascii c) q)) 128

-- the sets that a character beyond ASCII is in, by whether it starts and whether it continues a name
abbrev pub wide : Bool → Bool → CharSet → Bool
wide a b JavaLetter = a
wide a b JavaLetterOrDigit = b
wide a b InputCharacter = true
wide a b SingleCharacter = true
wide a b StringCharacter = true
wide a b TextBlockCharacter = true
wide a b NotEscape = true
wide a b NotStar = true
wide a b NotStarNotSlash = true
wide a b AnyCharacter = true
wide a b s = false

-- the values at two truth values
abbrev pub four : (Bool → Bool → List Rule) → List (List Rule)
four f = f true true ∷ f true false ∷ f false true ∷ f false false ∷ []

abbrev pub left_wide : List Rule → List (List Rule)
left_wide rs = four (λ a b. derive_rules (wide a b) rs)

abbrev pub led_wide : State → List (List Rule)
led_wide q = four (λ a b. meaning_of (step (wide a b) q))
