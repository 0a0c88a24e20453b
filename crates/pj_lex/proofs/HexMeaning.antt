-- The states in HexState stand for the rules that are left behind each ASCII character.
use Rattle.std.proofs.Common.{◌≡◌, refl}
use Rattle.pj_lex.specs.Rules.{rules}
use Rattle.pj_lex.specs.States.{spelled, hex_step, hex_spelled}
use Rattle.pj_lex.specs.declared.state.State.TheVariants as s
use Rattle.pj_patterns.specs.Derivatives.{spells_none}
use Rattle.pj_lex.specs.declared.hex.HexState.{HexState}
use Rattle.pj_lex.specs.declared.hex.HexState.TheVariants as hex
use Rattle.pj_lex.proofs.Meaning.{meaning, left_behind, led_to, left_wide, led_wide}

pub hex_goes_on : (q : HexState) → left_behind (meaning (s.Hex q)) ≡ led_to (s.Hex q)
unfolding rules meaning hex_step
hex_goes_on hex.HexMark = refl
hex_goes_on hex.Hex = refl
hex_goes_on hex.HexUnderscore = refl
hex_goes_on hex.HexPoint = refl
hex_goes_on hex.HexPointFirst = refl
hex_goes_on hex.HexFraction = refl
hex_goes_on hex.HexFractionUnderscore = refl

pub hex_spells : (q : HexState) → spells_none (meaning (s.Hex q)) ≡ spelled (s.Hex q)
unfolding rules meaning hex_spelled
hex_spells hex.HexMark = refl
hex_spells hex.Hex = refl
hex_spells hex.HexUnderscore = refl
hex_spells hex.HexPoint = refl
hex_spells hex.HexPointFirst = refl
hex_spells hex.HexFraction = refl
hex_spells hex.HexFractionUnderscore = refl

pub hex_wide : (q : HexState) → left_wide (meaning (s.Hex q)) ≡ led_wide (s.Hex q)
unfolding rules meaning hex_step
hex_wide hex.HexMark = refl
hex_wide hex.Hex = refl
hex_wide hex.HexUnderscore = refl
hex_wide hex.HexPoint = refl
hex_wide hex.HexPointFirst = refl
hex_wide hex.HexFraction = refl
hex_wide hex.HexFractionUnderscore = refl
