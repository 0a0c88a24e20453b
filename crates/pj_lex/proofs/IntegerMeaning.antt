-- The states in IntegerState stand for the rules that are left behind each ASCII character.
use Rattle.std.proofs.Common.{◌≡◌, refl}
use Rattle.pj_lex.specs.Rules.{rules}
use Rattle.pj_lex.specs.States.{spelled, int_step, int_spelled}
use Rattle.pj_lex.specs.declared.state.State.TheVariants as s
use Rattle.pj_patterns.specs.Derivatives.{spells_none}
use Rattle.pj_lex.specs.declared.integer.IntegerState.{IntegerState}
use Rattle.pj_lex.specs.declared.integer.IntegerState.TheVariants as int
use Rattle.pj_lex.proofs.Meaning.{meaning, left_behind, led_to, left_wide, led_wide}

pub int_goes_on : (q : IntegerState) → left_behind (meaning (s.Integer q)) ≡ led_to (s.Integer q)
unfolding rules meaning int_step
int_goes_on int.Zero = refl
int_goes_on int.Octal = refl
int_goes_on int.OctalUnderscore = refl
int_goes_on int.PointAwaited = refl
int_goes_on int.PointAwaitedUnderscore = refl
int_goes_on int.Decimal = refl
int_goes_on int.DecimalUnderscore = refl
int_goes_on int.BinaryMark = refl
int_goes_on int.Binary = refl
int_goes_on int.BinaryUnderscore = refl
int_goes_on int.IntegerEnd = refl

pub int_spells : (q : IntegerState) → spells_none (meaning (s.Integer q)) ≡ spelled (s.Integer q)
unfolding rules meaning int_spelled
int_spells int.Zero = refl
int_spells int.Octal = refl
int_spells int.OctalUnderscore = refl
int_spells int.PointAwaited = refl
int_spells int.PointAwaitedUnderscore = refl
int_spells int.Decimal = refl
int_spells int.DecimalUnderscore = refl
int_spells int.BinaryMark = refl
int_spells int.Binary = refl
int_spells int.BinaryUnderscore = refl
int_spells int.IntegerEnd = refl

pub int_wide : (q : IntegerState) → left_wide (meaning (s.Integer q)) ≡ led_wide (s.Integer q)
unfolding rules meaning int_step
int_wide int.Zero = refl
int_wide int.Octal = refl
int_wide int.OctalUnderscore = refl
int_wide int.PointAwaited = refl
int_wide int.PointAwaitedUnderscore = refl
int_wide int.Decimal = refl
int_wide int.DecimalUnderscore = refl
int_wide int.BinaryMark = refl
int_wide int.Binary = refl
int_wide int.BinaryUnderscore = refl
int_wide int.IntegerEnd = refl
