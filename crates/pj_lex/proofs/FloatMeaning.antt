-- The states in FloatState stand for the rules that are left behind each ASCII character.
use Rattle.std.proofs.Common.{◌≡◌, refl}
use Rattle.pj_lex.specs.Rules.{rules}
use Rattle.pj_lex.specs.States.{spelled, float_step, float_spelled}
use Rattle.pj_lex.specs.declared.state.State.TheVariants as s
use Rattle.pj_patterns.specs.Derivatives.{spells_none}
use Rattle.pj_lex.specs.declared.float.FloatState.{FloatState}
use Rattle.pj_lex.specs.declared.float.FloatState.TheVariants as float
use Rattle.pj_lex.proofs.Meaning.{meaning, left_behind, led_to, left_wide, led_wide}

pub float_goes_on : (q : FloatState) → left_behind (meaning (s.Float q)) ≡ led_to (s.Float q)
unfolding rules meaning float_step
float_goes_on float.Point = refl
float_goes_on float.Fraction = refl
float_goes_on float.FractionUnderscore = refl
float_goes_on float.Exponent = refl
float_goes_on float.ExponentSign = refl
float_goes_on float.ExponentDigit = refl
float_goes_on float.ExponentUnderscore = refl
float_goes_on float.FloatEnd = refl

pub float_spells : (q : FloatState) → spells_none (meaning (s.Float q)) ≡ spelled (s.Float q)
unfolding rules meaning float_spelled
float_spells float.Point = refl
float_spells float.Fraction = refl
float_spells float.FractionUnderscore = refl
float_spells float.Exponent = refl
float_spells float.ExponentSign = refl
float_spells float.ExponentDigit = refl
float_spells float.ExponentUnderscore = refl
float_spells float.FloatEnd = refl

pub float_wide : (q : FloatState) → left_wide (meaning (s.Float q)) ≡ led_wide (s.Float q)
unfolding rules meaning float_step
float_wide float.Point = refl
float_wide float.Fraction = refl
float_wide float.FractionUnderscore = refl
float_wide float.Exponent = refl
float_wide float.ExponentSign = refl
float_wide float.ExponentDigit = refl
float_wide float.ExponentUnderscore = refl
float_wide float.FloatEnd = refl
