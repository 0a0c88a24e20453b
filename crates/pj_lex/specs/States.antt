-- The scanner's states: how it goes on at a character, and what the word read so far spells.
use Rattle.std.specs.Prelude.{Bool, if◌then◌else◌, Option, Some, None}
use Rattle.pj_lex.specs.Characters.{CharSet, The, BinaryDigit, BinaryExponentMark, BinaryMark, Digit, EscapeLetter, ExponentMark, FloatSuffix, HexDigit, HexMark, InputCharacter, IntegerSuffix, JavaLetter, JavaLetterOrDigit, LineEnd, NonZeroDigit, NotEscape, OctalDigit, SignMark, SingleCharacter, TextBlockWhiteSpace, ZeroToThree}
use Rattle.pj_lex.specs.declared.token.TokenKind.TheVariants as t
use Rattle.pj_lex.specs.declared.category.Category.{Category}
use Rattle.pj_lex.specs.declared.category.Category.TheVariants.{Name, Number, Token, Greater, Fault}
use Rattle.pj_lex.specs.declared.state.State.{State}
use Rattle.pj_lex.specs.declared.state.State.TheVariants as s
use Rattle.pj_lex.specs.declared.sign.SignState.{SignState}
use Rattle.pj_lex.specs.declared.sign.SignState.TheVariants as sign
use Rattle.pj_lex.specs.declared.integer.IntegerState.{IntegerState}
use Rattle.pj_lex.specs.declared.integer.IntegerState.TheVariants as int
use Rattle.pj_lex.specs.declared.hex.HexState.{HexState}
use Rattle.pj_lex.specs.declared.hex.HexState.TheVariants as hex
use Rattle.pj_lex.specs.declared.float.FloatState.{FloatState}
use Rattle.pj_lex.specs.declared.float.FloatState.TheVariants as float
use Rattle.pj_lex.specs.declared.char_literal.CharState.{CharState}
use Rattle.pj_lex.specs.declared.char_literal.CharState.TheVariants as char
use Rattle.pj_lex.specs.declared.string_literal.StringState.{StringState}
use Rattle.pj_lex.specs.declared.string_literal.StringState.TheVariants as string
use Rattle.pj_lex.specs.declared.text_block.BlockState.{BlockState}
use Rattle.pj_lex.specs.declared.text_block.BlockState.TheVariants as block
use Rattle.pj_lex.specs.declared.comment.CommentState.{CommentState}
use Rattle.pj_lex.specs.declared.comment.CommentState.TheVariants as comment

-- Each step gives the next state at a character of which the tests hold, where some word goes on so.
unfoldable pub first_step : (CharSet → Bool) → Option State
first_step is = if is JavaLetter then Some s.Name else (if is (The 48) then Some (s.Integer int.Zero) else (if is NonZeroDigit then Some (s.Integer int.Decimal) else (if is (The 39) then Some (s.Char char.Apostrophe) else (if is (The 34) then Some (s.Text string.Quote) else (if is (The 40) then Some (s.Sign sign.LeftParenthesis) else (if is (The 41) then Some (s.Sign sign.RightParenthesis) else (if is (The 123) then Some (s.Sign sign.LeftBrace) else (if is (The 125) then Some (s.Sign sign.RightBrace) else (if is (The 91) then Some (s.Sign sign.LeftBracket) else (if is (The 93) then Some (s.Sign sign.RightBracket) else (if is (The 59) then Some (s.Sign sign.Semicolon) else (if is (The 44) then Some (s.Sign sign.Comma) else (if is (The 46) then Some (s.Sign sign.Dot) else (if is (The 64) then Some (s.Sign sign.At) else (if is (The 61) then Some (s.Sign sign.Assign) else (if is (The 60) then Some (s.Sign sign.Less) else (if is (The 33) then Some (s.Sign sign.Bang) else (if is (The 126) then Some (s.Sign sign.Tilde) else (if is (The 63) then Some (s.Sign sign.Question) else (if is (The 58) then Some (s.Sign sign.Colon) else (if is (The 43) then Some (s.Sign sign.Plus) else (if is (The 45) then Some (s.Sign sign.Minus) else (if is (The 42) then Some (s.Sign sign.Star) else (if is (The 47) then Some (s.Sign sign.Slash) else (if is (The 38) then Some (s.Sign sign.Ampersand) else (if is (The 124) then Some (s.Sign sign.Bar) else (if is (The 94) then Some (s.Sign sign.Caret) else (if is (The 37) then Some (s.Sign sign.Percent) else (if is (The 62) then Some (s.Sign sign.Greater) else None)))))))))))))))))))))))))))))

unfoldable pub sign_step : (CharSet → Bool) → SignState → Option State
sign_step is sign.LeftParenthesis = None
sign_step is sign.RightParenthesis = None
sign_step is sign.LeftBrace = None
sign_step is sign.RightBrace = None
sign_step is sign.LeftBracket = None
sign_step is sign.RightBracket = None
sign_step is sign.Semicolon = None
sign_step is sign.Comma = None
sign_step is sign.Dot = if is Digit then Some (s.Float float.Fraction) else (if is (The 46) then Some (s.Sign sign.DotDot) else None)
sign_step is sign.Ellipsis = None
sign_step is sign.At = None
sign_step is sign.ColonColon = None
sign_step is sign.Assign = if is (The 61) then Some (s.Sign sign.EqualEqual) else None
sign_step is sign.Less = if is (The 60) then Some (s.Sign sign.LessLess) else (if is (The 61) then Some (s.Sign sign.LessEqual) else None)
sign_step is sign.Bang = if is (The 61) then Some (s.Sign sign.BangEqual) else None
sign_step is sign.Tilde = None
sign_step is sign.Question = None
sign_step is sign.Colon = if is (The 58) then Some (s.Sign sign.ColonColon) else None
sign_step is sign.Arrow = None
sign_step is sign.EqualEqual = None
sign_step is sign.LessEqual = None
sign_step is sign.BangEqual = None
sign_step is sign.AndAnd = None
sign_step is sign.OrOr = None
sign_step is sign.PlusPlus = None
sign_step is sign.MinusMinus = None
sign_step is sign.Plus = if is (The 43) then Some (s.Sign sign.PlusPlus) else (if is (The 61) then Some (s.Sign sign.PlusAssign) else None)
sign_step is sign.Minus = if is (The 45) then Some (s.Sign sign.MinusMinus) else (if is (The 62) then Some (s.Sign sign.Arrow) else (if is (The 61) then Some (s.Sign sign.MinusAssign) else None))
sign_step is sign.Star = if is (The 61) then Some (s.Sign sign.StarAssign) else None
sign_step is sign.Slash = if is (The 47) then Some (s.Comment comment.LineComment) else (if is (The 42) then Some (s.Comment comment.CommentOpening) else (if is (The 61) then Some (s.Sign sign.SlashAssign) else None))
sign_step is sign.Ampersand = if is (The 38) then Some (s.Sign sign.AndAnd) else (if is (The 61) then Some (s.Sign sign.AmpersandAssign) else None)
sign_step is sign.Bar = if is (The 124) then Some (s.Sign sign.OrOr) else (if is (The 61) then Some (s.Sign sign.BarAssign) else None)
sign_step is sign.Caret = if is (The 61) then Some (s.Sign sign.CaretAssign) else None
sign_step is sign.Percent = if is (The 61) then Some (s.Sign sign.PercentAssign) else None
sign_step is sign.LessLess = if is (The 61) then Some (s.Sign sign.LessLessAssign) else None
sign_step is sign.PlusAssign = None
sign_step is sign.MinusAssign = None
sign_step is sign.StarAssign = None
sign_step is sign.SlashAssign = None
sign_step is sign.AmpersandAssign = None
sign_step is sign.BarAssign = None
sign_step is sign.CaretAssign = None
sign_step is sign.PercentAssign = None
sign_step is sign.LessLessAssign = None
sign_step is sign.Greater = None
sign_step is sign.DotDot = if is (The 46) then Some (s.Sign sign.Ellipsis) else None

unfoldable pub int_step : (CharSet → Bool) → IntegerState → Option State
int_step is int.Zero = if is OctalDigit then Some (s.Integer int.Octal) else (if is Digit then Some (s.Integer int.PointAwaited) else (if is (The 95) then Some (s.Integer int.OctalUnderscore) else (if is HexMark then Some (s.Hex hex.HexMark) else (if is BinaryMark then Some (s.Integer int.BinaryMark) else (if is (The 46) then Some (s.Float float.Point) else (if is ExponentMark then Some (s.Float float.Exponent) else (if is FloatSuffix then Some (s.Float float.FloatEnd) else (if is IntegerSuffix then Some (s.Integer int.IntegerEnd) else None))))))))
int_step is int.Octal = if is OctalDigit then Some (s.Integer int.Octal) else (if is Digit then Some (s.Integer int.PointAwaited) else (if is (The 95) then Some (s.Integer int.OctalUnderscore) else (if is (The 46) then Some (s.Float float.Point) else (if is ExponentMark then Some (s.Float float.Exponent) else (if is FloatSuffix then Some (s.Float float.FloatEnd) else (if is IntegerSuffix then Some (s.Integer int.IntegerEnd) else None))))))
int_step is int.OctalUnderscore = if is OctalDigit then Some (s.Integer int.Octal) else (if is Digit then Some (s.Integer int.PointAwaited) else (if is (The 95) then Some (s.Integer int.OctalUnderscore) else None))
int_step is int.PointAwaited = if is Digit then Some (s.Integer int.PointAwaited) else (if is (The 95) then Some (s.Integer int.PointAwaitedUnderscore) else (if is (The 46) then Some (s.Float float.Point) else (if is ExponentMark then Some (s.Float float.Exponent) else (if is FloatSuffix then Some (s.Float float.FloatEnd) else None))))
int_step is int.PointAwaitedUnderscore = if is Digit then Some (s.Integer int.PointAwaited) else (if is (The 95) then Some (s.Integer int.PointAwaitedUnderscore) else None)
int_step is int.Decimal = if is Digit then Some (s.Integer int.Decimal) else (if is (The 95) then Some (s.Integer int.DecimalUnderscore) else (if is (The 46) then Some (s.Float float.Point) else (if is ExponentMark then Some (s.Float float.Exponent) else (if is FloatSuffix then Some (s.Float float.FloatEnd) else (if is IntegerSuffix then Some (s.Integer int.IntegerEnd) else None)))))
int_step is int.DecimalUnderscore = if is Digit then Some (s.Integer int.Decimal) else (if is (The 95) then Some (s.Integer int.DecimalUnderscore) else None)
int_step is int.BinaryMark = if is BinaryDigit then Some (s.Integer int.Binary) else None
int_step is int.Binary = if is BinaryDigit then Some (s.Integer int.Binary) else (if is (The 95) then Some (s.Integer int.BinaryUnderscore) else (if is IntegerSuffix then Some (s.Integer int.IntegerEnd) else None))
int_step is int.BinaryUnderscore = if is BinaryDigit then Some (s.Integer int.Binary) else (if is (The 95) then Some (s.Integer int.BinaryUnderscore) else None)
int_step is int.IntegerEnd = None

unfoldable pub hex_step : (CharSet → Bool) → HexState → Option State
hex_step is hex.HexMark = if is HexDigit then Some (s.Hex hex.Hex) else (if is (The 46) then Some (s.Hex hex.HexPointFirst) else None)
hex_step is hex.Hex = if is HexDigit then Some (s.Hex hex.Hex) else (if is (The 95) then Some (s.Hex hex.HexUnderscore) else (if is (The 46) then Some (s.Hex hex.HexPoint) else (if is BinaryExponentMark then Some (s.Float float.Exponent) else (if is IntegerSuffix then Some (s.Integer int.IntegerEnd) else None))))
hex_step is hex.HexUnderscore = if is HexDigit then Some (s.Hex hex.Hex) else (if is (The 95) then Some (s.Hex hex.HexUnderscore) else None)
hex_step is hex.HexPoint = if is HexDigit then Some (s.Hex hex.HexFraction) else (if is BinaryExponentMark then Some (s.Float float.Exponent) else None)
hex_step is hex.HexPointFirst = if is HexDigit then Some (s.Hex hex.HexFraction) else None
hex_step is hex.HexFraction = if is HexDigit then Some (s.Hex hex.HexFraction) else (if is (The 95) then Some (s.Hex hex.HexFractionUnderscore) else (if is BinaryExponentMark then Some (s.Float float.Exponent) else None))
hex_step is hex.HexFractionUnderscore = if is HexDigit then Some (s.Hex hex.HexFraction) else (if is (The 95) then Some (s.Hex hex.HexFractionUnderscore) else None)

unfoldable pub float_step : (CharSet → Bool) → FloatState → Option State
float_step is float.Point = if is Digit then Some (s.Float float.Fraction) else (if is ExponentMark then Some (s.Float float.Exponent) else (if is FloatSuffix then Some (s.Float float.FloatEnd) else None))
float_step is float.Fraction = if is Digit then Some (s.Float float.Fraction) else (if is (The 95) then Some (s.Float float.FractionUnderscore) else (if is ExponentMark then Some (s.Float float.Exponent) else (if is FloatSuffix then Some (s.Float float.FloatEnd) else None)))
float_step is float.FractionUnderscore = if is Digit then Some (s.Float float.Fraction) else (if is (The 95) then Some (s.Float float.FractionUnderscore) else None)
float_step is float.Exponent = if is SignMark then Some (s.Float float.ExponentSign) else (if is Digit then Some (s.Float float.ExponentDigit) else None)
float_step is float.ExponentSign = if is Digit then Some (s.Float float.ExponentDigit) else None
float_step is float.ExponentDigit = if is Digit then Some (s.Float float.ExponentDigit) else (if is (The 95) then Some (s.Float float.ExponentUnderscore) else (if is FloatSuffix then Some (s.Float float.FloatEnd) else None))
float_step is float.ExponentUnderscore = if is Digit then Some (s.Float float.ExponentDigit) else (if is (The 95) then Some (s.Float float.ExponentUnderscore) else None)
float_step is float.FloatEnd = None

unfoldable pub char_step : (CharSet → Bool) → CharState → Option State
char_step is char.Apostrophe = if is (The 92) then Some (s.Char char.CharEscape) else (if is SingleCharacter then Some (s.Char char.CharBody) else None)
char_step is char.CharBody = if is (The 39) then Some (s.Char char.CharEnd) else None
char_step is char.CharEscape = if is EscapeLetter then Some (s.Char char.CharBody) else (if is ZeroToThree then Some (s.Char char.CharOctal) else (if is OctalDigit then Some (s.Char char.CharOctalShort) else (if is NotEscape then Some (s.Char char.BadCharBody) else None)))
char_step is char.CharOctal = if is (The 39) then Some (s.Char char.CharEnd) else (if is OctalDigit then Some (s.Char char.CharOctalShort) else None)
char_step is char.CharOctalShort = if is (The 39) then Some (s.Char char.CharEnd) else (if is OctalDigit then Some (s.Char char.CharBody) else None)
char_step is char.CharEnd = None
char_step is char.BadCharBody = if is (The 39) then Some s.BadEnd else None

unfoldable pub string_step : (CharSet → Bool) → StringState → Option State
string_step is string.Quote = if is (The 34) then Some (s.Text string.EmptyString) else (if is (The 92) then Some (s.Text string.StringEscape) else (if is InputCharacter then Some (s.Text string.StringBody) else None))
string_step is string.EmptyString = if is (The 34) then Some (s.Block block.BlockOpening) else None
string_step is string.StringBody = if is (The 34) then Some (s.Text string.StringEnd) else (if is (The 92) then Some (s.Text string.StringEscape) else (if is InputCharacter then Some (s.Text string.StringBody) else None))
string_step is string.StringEscape = if is EscapeLetter then Some (s.Text string.StringBody) else (if is OctalDigit then Some (s.Text string.StringBody) else (if is InputCharacter then Some (s.Text string.BadStringBody) else None))
string_step is string.StringEnd = None
string_step is string.BadStringBody = if is (The 34) then Some s.BadEnd else (if is (The 92) then Some (s.Text string.BadStringEscape) else (if is InputCharacter then Some (s.Text string.BadStringBody) else None))
string_step is string.BadStringEscape = if is InputCharacter then Some (s.Text string.BadStringBody) else None

unfoldable pub block_step : (CharSet → Bool) → BlockState → Option State
block_step is block.BlockOpening = if is TextBlockWhiteSpace then Some (s.Block block.BlockOpeningLine) else (if is LineEnd then Some (s.Block block.BlockBody) else None)
block_step is block.BlockOpeningLine = if is TextBlockWhiteSpace then Some (s.Block block.BlockOpeningLine) else (if is LineEnd then Some (s.Block block.BlockBody) else None)
block_step is block.BlockBody = if is (The 34) then Some (s.Block block.BlockQuote) else (if is (The 92) then Some (s.Block block.BlockEscape) else Some (s.Block block.BlockBody))
block_step is block.BlockQuote = if is (The 34) then Some (s.Block block.BlockQuotes) else (if is (The 92) then Some (s.Block block.BlockEscape) else Some (s.Block block.BlockBody))
block_step is block.BlockQuotes = if is (The 34) then Some (s.Block block.BlockEnd) else (if is (The 92) then Some (s.Block block.BlockEscape) else Some (s.Block block.BlockBody))
block_step is block.BlockEscape = if is EscapeLetter then Some (s.Block block.BlockBody) else (if is OctalDigit then Some (s.Block block.BlockBody) else (if is LineEnd then Some (s.Block block.BlockBody) else Some (s.Block block.BadBlockBody)))
block_step is block.BlockEnd = None
block_step is block.BadBlockBody = if is (The 34) then Some (s.Block block.BadBlockQuote) else (if is (The 92) then Some (s.Block block.BadBlockEscape) else Some (s.Block block.BadBlockBody))
block_step is block.BadBlockQuote = if is (The 34) then Some (s.Block block.BadBlockQuotes) else (if is (The 92) then Some (s.Block block.BadBlockEscape) else Some (s.Block block.BadBlockBody))
block_step is block.BadBlockQuotes = if is (The 34) then Some s.BadEnd else (if is (The 92) then Some (s.Block block.BadBlockEscape) else Some (s.Block block.BadBlockBody))
block_step is block.BadBlockEscape = Some (s.Block block.BadBlockBody)

unfoldable pub comment_step : (CharSet → Bool) → CommentState → Option State
comment_step is comment.LineComment = if is InputCharacter then Some (s.Comment comment.LineComment) else None
comment_step is comment.CommentOpening = if is (The 42) then Some (s.Comment comment.CommentStar) else Some (s.Comment comment.CommentBody)
comment_step is comment.CommentBody = if is (The 42) then Some (s.Comment comment.CommentStar) else Some (s.Comment comment.CommentBody)
comment_step is comment.CommentStar = if is (The 42) then Some (s.Comment comment.CommentStar) else (if is (The 47) then Some (s.Comment comment.CommentEnd) else Some (s.Comment comment.CommentBody))
comment_step is comment.CommentEnd = None

abbrev pub step : (CharSet → Bool) → State → Option State
step is s.Start = first_step is
step is s.Name = if is JavaLetterOrDigit then Some s.Name else None
step is s.BadEnd = None
step is (s.Sign q) = sign_step is q
step is (s.Integer q) = int_step is q
step is (s.Hex q) = hex_step is q
step is (s.Float q) = float_step is q
step is (s.Char q) = char_step is q
step is (s.Text q) = string_step is q
step is (s.Block q) = block_step is q
step is (s.Comment q) = comment_step is q

-- what the word that leads to a state spells, where it spells something
unfoldable pub sign_spelled : SignState → Option Category
sign_spelled sign.LeftParenthesis = Some (Token t.LeftParenthesis)
sign_spelled sign.RightParenthesis = Some (Token t.RightParenthesis)
sign_spelled sign.LeftBrace = Some (Token t.LeftBrace)
sign_spelled sign.RightBrace = Some (Token t.RightBrace)
sign_spelled sign.LeftBracket = Some (Token t.LeftBracket)
sign_spelled sign.RightBracket = Some (Token t.RightBracket)
sign_spelled sign.Semicolon = Some (Token t.Semicolon)
sign_spelled sign.Comma = Some (Token t.Comma)
sign_spelled sign.Dot = Some (Token t.Dot)
sign_spelled sign.Ellipsis = Some (Token t.Ellipsis)
sign_spelled sign.At = Some (Token t.At)
sign_spelled sign.ColonColon = Some (Token t.ColonColon)
sign_spelled sign.Assign = Some (Token t.Assign)
sign_spelled sign.Less = Some (Token t.Less)
sign_spelled sign.Bang = Some (Token t.Bang)
sign_spelled sign.Tilde = Some (Token t.Tilde)
sign_spelled sign.Question = Some (Token t.Question)
sign_spelled sign.Colon = Some (Token t.Colon)
sign_spelled sign.Arrow = Some (Token t.Arrow)
sign_spelled sign.EqualEqual = Some (Token t.EqualEqual)
sign_spelled sign.LessEqual = Some (Token t.LessEqual)
sign_spelled sign.BangEqual = Some (Token t.BangEqual)
sign_spelled sign.AndAnd = Some (Token t.AndAnd)
sign_spelled sign.OrOr = Some (Token t.OrOr)
sign_spelled sign.PlusPlus = Some (Token t.PlusPlus)
sign_spelled sign.MinusMinus = Some (Token t.MinusMinus)
sign_spelled sign.Plus = Some (Token t.Plus)
sign_spelled sign.Minus = Some (Token t.Minus)
sign_spelled sign.Star = Some (Token t.Star)
sign_spelled sign.Slash = Some (Token t.Slash)
sign_spelled sign.Ampersand = Some (Token t.Ampersand)
sign_spelled sign.Bar = Some (Token t.Bar)
sign_spelled sign.Caret = Some (Token t.Caret)
sign_spelled sign.Percent = Some (Token t.Percent)
sign_spelled sign.LessLess = Some (Token t.LessLess)
sign_spelled sign.PlusAssign = Some (Token t.PlusAssign)
sign_spelled sign.MinusAssign = Some (Token t.MinusAssign)
sign_spelled sign.StarAssign = Some (Token t.StarAssign)
sign_spelled sign.SlashAssign = Some (Token t.SlashAssign)
sign_spelled sign.AmpersandAssign = Some (Token t.AmpersandAssign)
sign_spelled sign.BarAssign = Some (Token t.BarAssign)
sign_spelled sign.CaretAssign = Some (Token t.CaretAssign)
sign_spelled sign.PercentAssign = Some (Token t.PercentAssign)
sign_spelled sign.LessLessAssign = Some (Token t.LessLessAssign)
sign_spelled sign.Greater = Some Greater
sign_spelled sign.DotDot = None

unfoldable pub int_spelled : IntegerState → Option Category
int_spelled int.Zero = Some (Number t.IntLiteral)
int_spelled int.Octal = Some (Number t.IntLiteral)
int_spelled int.OctalUnderscore = None
int_spelled int.PointAwaited = None
int_spelled int.PointAwaitedUnderscore = None
int_spelled int.Decimal = Some (Number t.IntLiteral)
int_spelled int.DecimalUnderscore = None
int_spelled int.BinaryMark = None
int_spelled int.Binary = Some (Number t.IntLiteral)
int_spelled int.BinaryUnderscore = None
int_spelled int.IntegerEnd = Some (Number t.IntLiteral)

unfoldable pub hex_spelled : HexState → Option Category
hex_spelled hex.HexMark = None
hex_spelled hex.Hex = Some (Number t.IntLiteral)
hex_spelled hex.HexUnderscore = None
hex_spelled hex.HexPoint = None
hex_spelled hex.HexPointFirst = None
hex_spelled hex.HexFraction = None
hex_spelled hex.HexFractionUnderscore = None

unfoldable pub float_spelled : FloatState → Option Category
float_spelled float.Point = Some (Number t.FloatLiteral)
float_spelled float.Fraction = Some (Number t.FloatLiteral)
float_spelled float.FractionUnderscore = None
float_spelled float.Exponent = None
float_spelled float.ExponentSign = None
float_spelled float.ExponentDigit = Some (Number t.FloatLiteral)
float_spelled float.ExponentUnderscore = None
float_spelled float.FloatEnd = Some (Number t.FloatLiteral)

unfoldable pub char_spelled : CharState → Option Category
char_spelled char.Apostrophe = Some (Fault 2)
char_spelled char.CharBody = None
char_spelled char.CharEscape = None
char_spelled char.CharOctal = None
char_spelled char.CharOctalShort = None
char_spelled char.CharEnd = Some (Token t.CharLiteral)
char_spelled char.BadCharBody = None

unfoldable pub string_spelled : StringState → Option Category
string_spelled string.Quote = Some (Fault 2)
string_spelled string.EmptyString = Some (Token t.StringLiteral)
string_spelled string.StringBody = None
string_spelled string.StringEscape = None
string_spelled string.StringEnd = Some (Token t.StringLiteral)
string_spelled string.BadStringBody = None
string_spelled string.BadStringEscape = None

unfoldable pub block_spelled : BlockState → Option Category
block_spelled block.BlockOpening = Some (Fault 2)
block_spelled block.BlockOpeningLine = None
block_spelled block.BlockBody = None
block_spelled block.BlockQuote = None
block_spelled block.BlockQuotes = None
block_spelled block.BlockEscape = None
block_spelled block.BlockEnd = Some (Token t.TextBlock)
block_spelled block.BadBlockBody = None
block_spelled block.BadBlockQuote = None
block_spelled block.BadBlockQuotes = None
block_spelled block.BadBlockEscape = None

unfoldable pub comment_spelled : CommentState → Option Category
comment_spelled comment.LineComment = Some (Token t.Comment)
comment_spelled comment.CommentOpening = Some (Fault 3)
comment_spelled comment.CommentBody = None
comment_spelled comment.CommentStar = None
comment_spelled comment.CommentEnd = Some (Token t.Comment)

abbrev pub spelled : State → Option Category
spelled s.Start = None
spelled s.Name = Some Name
spelled s.BadEnd = Some (Fault 4)
spelled (s.Sign q) = sign_spelled q
spelled (s.Integer q) = int_spelled q
spelled (s.Hex q) = hex_spelled q
spelled (s.Float q) = float_spelled q
spelled (s.Char q) = char_spelled q
spelled (s.Text q) = string_spelled q
spelled (s.Block q) = block_spelled q
spelled (s.Comment q) = comment_spelled q
