-- The states of signs stand for the rules that are left behind each ASCII character.
use Rattle.std.proofs.Common.{◌≡◌, refl}
use Rattle.pj_xtokens.specs.Rules.{rules}
use Rattle.pj_xtokens.specs.States.{spelled, sign_step}
use Rattle.pj_xtokens.specs.declared.state.State.TheVariants as s
use Rattle.pj_xtokens.specs.declared.token.Sign.{Sign}
use Rattle.pj_xtokens.specs.declared.token.Sign.TheVariants as sign
use Rattle.pj_patterns.specs.Derivatives.{spells_none}
use Rattle.pj_xtokens.proofs.Meaning.{meaning, left_behind, led_to, left_wide, led_wide}

pub sign_goes_on : (q : Sign) → left_behind (meaning (s.Sign q)) ≡ led_to (s.Sign q)
unfolding rules meaning sign_step
sign_goes_on sign.LeftParenthesis = refl
sign_goes_on sign.RightParenthesis = refl
sign_goes_on sign.LeftBracket = refl
sign_goes_on sign.RightBracket = refl
sign_goes_on sign.LeftBrace = refl
sign_goes_on sign.RightBrace = refl
sign_goes_on sign.Comma = refl
sign_goes_on sign.Dot = refl
sign_goes_on sign.DotDot = refl
sign_goes_on sign.Slash = refl
sign_goes_on sign.SlashSlash = refl
sign_goes_on sign.Colon = refl
sign_goes_on sign.ColonColon = refl
sign_goes_on sign.ColonEqual = refl
sign_goes_on sign.Bang = refl
sign_goes_on sign.BangEqual = refl
sign_goes_on sign.Dollar = refl
sign_goes_on sign.Star = refl
sign_goes_on sign.Plus = refl
sign_goes_on sign.Minus = refl
sign_goes_on sign.Less = refl
sign_goes_on sign.LessLess = refl
sign_goes_on sign.LessEqual = refl
sign_goes_on sign.Equal = refl
sign_goes_on sign.Arrow = refl
sign_goes_on sign.Greater = refl
sign_goes_on sign.GreaterGreater = refl
sign_goes_on sign.GreaterEqual = refl
sign_goes_on sign.Question = refl
sign_goes_on sign.At = refl
sign_goes_on sign.Bar = refl
sign_goes_on sign.BarBar = refl
sign_goes_on sign.Hash = refl

pub sign_spells : (q : Sign) → spells_none (meaning (s.Sign q)) ≡ spelled (s.Sign q)
unfolding rules meaning sign_step
sign_spells sign.LeftParenthesis = refl
sign_spells sign.RightParenthesis = refl
sign_spells sign.LeftBracket = refl
sign_spells sign.RightBracket = refl
sign_spells sign.LeftBrace = refl
sign_spells sign.RightBrace = refl
sign_spells sign.Comma = refl
sign_spells sign.Dot = refl
sign_spells sign.DotDot = refl
sign_spells sign.Slash = refl
sign_spells sign.SlashSlash = refl
sign_spells sign.Colon = refl
sign_spells sign.ColonColon = refl
sign_spells sign.ColonEqual = refl
sign_spells sign.Bang = refl
sign_spells sign.BangEqual = refl
sign_spells sign.Dollar = refl
sign_spells sign.Star = refl
sign_spells sign.Plus = refl
sign_spells sign.Minus = refl
sign_spells sign.Less = refl
sign_spells sign.LessLess = refl
sign_spells sign.LessEqual = refl
sign_spells sign.Equal = refl
sign_spells sign.Arrow = refl
sign_spells sign.Greater = refl
sign_spells sign.GreaterGreater = refl
sign_spells sign.GreaterEqual = refl
sign_spells sign.Question = refl
sign_spells sign.At = refl
sign_spells sign.Bar = refl
sign_spells sign.BarBar = refl
sign_spells sign.Hash = refl

pub sign_wide : (q : Sign) → left_wide (meaning (s.Sign q)) ≡ led_wide (s.Sign q)
unfolding rules meaning sign_step
sign_wide sign.LeftParenthesis = refl
sign_wide sign.RightParenthesis = refl
sign_wide sign.LeftBracket = refl
sign_wide sign.RightBracket = refl
sign_wide sign.LeftBrace = refl
sign_wide sign.RightBrace = refl
sign_wide sign.Comma = refl
sign_wide sign.Dot = refl
sign_wide sign.DotDot = refl
sign_wide sign.Slash = refl
sign_wide sign.SlashSlash = refl
sign_wide sign.Colon = refl
sign_wide sign.ColonColon = refl
sign_wide sign.ColonEqual = refl
sign_wide sign.Bang = refl
sign_wide sign.BangEqual = refl
sign_wide sign.Dollar = refl
sign_wide sign.Star = refl
sign_wide sign.Plus = refl
sign_wide sign.Minus = refl
sign_wide sign.Less = refl
sign_wide sign.LessLess = refl
sign_wide sign.LessEqual = refl
sign_wide sign.Equal = refl
sign_wide sign.Arrow = refl
sign_wide sign.Greater = refl
sign_wide sign.GreaterGreater = refl
sign_wide sign.GreaterEqual = refl
sign_wide sign.Question = refl
sign_wide sign.At = refl
sign_wide sign.Bar = refl
sign_wide sign.BarBar = refl
sign_wide sign.Hash = refl
