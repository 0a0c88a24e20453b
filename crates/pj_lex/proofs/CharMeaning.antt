-- The states in CharState stand for the rules that are left behind each ASCII character.
use Rattle.std.proofs.Common.{◌≡◌, refl}
use Rattle.pj_lex.specs.Rules.{rules}
use Rattle.pj_lex.specs.States.{spelled, char_step, char_spelled}
use Rattle.pj_lex.specs.declared.state.State.TheVariants as s
use Rattle.pj_patterns.specs.Derivatives.{spells_none}
use Rattle.pj_lex.specs.declared.char_literal.CharState.{CharState}
use Rattle.pj_lex.specs.declared.char_literal.CharState.TheVariants as char
use Rattle.pj_lex.proofs.Meaning.{meaning, left_behind, led_to, left_wide, led_wide}

pub char_goes_on : (q : CharState) → left_behind (meaning (s.Char q)) ≡ led_to (s.Char q)
unfolding rules meaning char_step
char_goes_on char.Apostrophe = refl
char_goes_on char.CharBody = refl
char_goes_on char.CharEscape = refl
char_goes_on char.CharOctal = refl
char_goes_on char.CharOctalShort = refl
char_goes_on char.CharEnd = refl
char_goes_on char.BadCharBody = refl

pub char_spells : (q : CharState) → spells_none (meaning (s.Char q)) ≡ spelled (s.Char q)
unfolding rules meaning char_spelled
char_spells char.Apostrophe = refl
char_spells char.CharBody = refl
char_spells char.CharEscape = refl
char_spells char.CharOctal = refl
char_spells char.CharOctalShort = refl
char_spells char.CharEnd = refl
char_spells char.BadCharBody = refl

pub char_wide : (q : CharState) → left_wide (meaning (s.Char q)) ≡ led_wide (s.Char q)
unfolding rules meaning char_step
char_wide char.Apostrophe = refl
char_wide char.CharBody = refl
char_wide char.CharEscape = refl
char_wide char.CharOctal = refl
char_wide char.CharOctalShort = refl
char_wide char.CharEnd = refl
char_wide char.BadCharBody = refl
