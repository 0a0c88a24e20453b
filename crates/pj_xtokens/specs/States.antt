-- The scanner's states: how it goes on at a character, and what the word read so far spells.
use Rattle.std.specs.Prelude.{Bool, if◌then◌else◌, Option, Some, None}
use Rattle.pj_xtokens.specs.Characters.{CharSet, The, NameStart, NameCharacter, Digit, ExponentMark, PlusOrMinus, NotQuote, NotApostrophe}
use Rattle.pj_xtokens.specs.declared.token.TokenKind.{TokenKind}
use Rattle.pj_xtokens.specs.declared.token.TokenKind.TheVariants as t
use Rattle.pj_xtokens.specs.declared.token.Sign.{Sign}
use Rattle.pj_xtokens.specs.declared.token.Sign.TheVariants as sign
use Rattle.pj_xtokens.specs.declared.state.State.{State}
use Rattle.pj_xtokens.specs.declared.state.State.TheVariants as s

-- Each step gives the next state at a character of which the tests hold, where some word goes on so.
unfoldable pub first_step : (CharSet → Bool) → Option State
first_step is = if is NameStart then Some s.Name else (if is Digit then Some s.Integer else (if is (The 34) then Some s.QuoteBody else (if is (The 39) then Some s.ApostropheBody else (if is (The 40) then Some (s.Sign sign.LeftParenthesis) else (if is (The 41) then Some (s.Sign sign.RightParenthesis) else (if is (The 91) then Some (s.Sign sign.LeftBracket) else (if is (The 93) then Some (s.Sign sign.RightBracket) else (if is (The 123) then Some (s.Sign sign.LeftBrace) else (if is (The 125) then Some (s.Sign sign.RightBrace) else (if is (The 44) then Some (s.Sign sign.Comma) else (if is (The 46) then Some (s.Sign sign.Dot) else (if is (The 47) then Some (s.Sign sign.Slash) else (if is (The 58) then Some (s.Sign sign.Colon) else (if is (The 33) then Some (s.Sign sign.Bang) else (if is (The 36) then Some (s.Sign sign.Dollar) else (if is (The 42) then Some (s.Sign sign.Star) else (if is (The 43) then Some (s.Sign sign.Plus) else (if is (The 45) then Some (s.Sign sign.Minus) else (if is (The 60) then Some (s.Sign sign.Less) else (if is (The 61) then Some (s.Sign sign.Equal) else (if is (The 62) then Some (s.Sign sign.Greater) else (if is (The 63) then Some (s.Sign sign.Question) else (if is (The 64) then Some (s.Sign sign.At) else (if is (The 124) then Some (s.Sign sign.Bar) else (if is (The 35) then Some (s.Sign sign.Hash) else None)))))))))))))))))))))))))

unfoldable pub sign_step : (CharSet → Bool) → Sign → Option State
sign_step is sign.LeftParenthesis = None
sign_step is sign.RightParenthesis = None
sign_step is sign.LeftBracket = None
sign_step is sign.RightBracket = None
sign_step is sign.LeftBrace = None
sign_step is sign.RightBrace = None
sign_step is sign.Comma = None
sign_step is sign.Dot = if is Digit then Some s.Decimal else (if is (The 46) then Some (s.Sign sign.DotDot) else None)
sign_step is sign.DotDot = None
sign_step is sign.Slash = if is (The 47) then Some (s.Sign sign.SlashSlash) else None
sign_step is sign.SlashSlash = None
sign_step is sign.Colon = if is (The 58) then Some (s.Sign sign.ColonColon) else (if is (The 61) then Some (s.Sign sign.ColonEqual) else None)
sign_step is sign.ColonColon = None
sign_step is sign.ColonEqual = None
sign_step is sign.Bang = if is (The 61) then Some (s.Sign sign.BangEqual) else None
sign_step is sign.BangEqual = None
sign_step is sign.Dollar = None
sign_step is sign.Star = None
sign_step is sign.Plus = None
sign_step is sign.Minus = None
sign_step is sign.Less = if is (The 60) then Some (s.Sign sign.LessLess) else (if is (The 61) then Some (s.Sign sign.LessEqual) else None)
sign_step is sign.LessLess = None
sign_step is sign.LessEqual = None
sign_step is sign.Equal = if is (The 62) then Some (s.Sign sign.Arrow) else None
sign_step is sign.Arrow = None
sign_step is sign.Greater = if is (The 62) then Some (s.Sign sign.GreaterGreater) else (if is (The 61) then Some (s.Sign sign.GreaterEqual) else None)
sign_step is sign.GreaterGreater = None
sign_step is sign.GreaterEqual = None
sign_step is sign.Question = None
sign_step is sign.At = None
sign_step is sign.Bar = if is (The 124) then Some (s.Sign sign.BarBar) else None
sign_step is sign.BarBar = None
sign_step is sign.Hash = None

abbrev pub step : (CharSet → Bool) → State → Option State
step is s.Start = first_step is
step is s.Name = if is NameCharacter then Some s.Name else (if is (The 58) then Some s.NameColon else None)
step is s.NameColon = if is NameStart then Some s.PrefixedName else None
step is s.PrefixedName = if is NameCharacter then Some s.PrefixedName else None
step is s.Integer = if is Digit then Some s.Integer else (if is (The 46) then Some s.Decimal else (if is ExponentMark then Some s.ExponentMark else None))
step is s.Decimal = if is Digit then Some s.Decimal else (if is ExponentMark then Some s.ExponentMark else None)
step is s.ExponentMark = if is Digit then Some s.Double else (if is PlusOrMinus then Some s.ExponentSign else None)
step is s.ExponentSign = if is Digit then Some s.Double else None
step is s.Double = if is Digit then Some s.Double else None
step is s.QuoteBody = if is (The 34) then Some s.QuoteEnd else (if is NotQuote then Some s.QuoteBody else None)
step is s.QuoteEnd = if is (The 34) then Some s.QuoteBody else None
step is s.ApostropheBody = if is (The 39) then Some s.ApostropheEnd else (if is NotApostrophe then Some s.ApostropheBody else None)
step is s.ApostropheEnd = if is (The 39) then Some s.ApostropheBody else None
step is (s.Sign q) = sign_step is q

-- what the whole word that leads to the state is, where it is one
abbrev pub spelled : State → Option TokenKind
spelled s.Start = None
spelled s.Name = Some t.Name
spelled s.NameColon = None
spelled s.PrefixedName = Some t.Name
spelled s.Integer = Some t.Integer
spelled s.Decimal = Some t.Decimal
spelled s.ExponentMark = None
spelled s.ExponentSign = None
spelled s.Double = Some t.Double
spelled s.QuoteBody = None
spelled s.QuoteEnd = Some t.String
spelled s.ApostropheBody = None
spelled s.ApostropheEnd = Some t.String
spelled (s.Sign q) = Some (t.Sign q)
