-- The states in StringState stand for the rules that are left behind each ASCII character.
use Rattle.std.proofs.Common.{◌≡◌, refl}
use Rattle.pj_lex.specs.Rules.{rules}
use Rattle.pj_lex.specs.States.{spelled, string_step, string_spelled}
use Rattle.pj_lex.specs.declared.state.State.TheVariants as s
use Rattle.pj_patterns.specs.Derivatives.{spells_none}
use Rattle.pj_lex.specs.declared.string_literal.StringState.{StringState}
use Rattle.pj_lex.specs.declared.string_literal.StringState.TheVariants as string
use Rattle.pj_lex.proofs.Meaning.{meaning, left_behind, led_to, left_wide, led_wide}

pub string_goes_on : (q : StringState) → left_behind (meaning (s.Text q)) ≡ led_to (s.Text q)
unfolding rules meaning string_step
string_goes_on string.Quote = refl
string_goes_on string.EmptyString = refl
string_goes_on string.StringBody = refl
string_goes_on string.StringEscape = refl
string_goes_on string.StringEnd = refl
string_goes_on string.BadStringBody = refl
string_goes_on string.BadStringEscape = refl

pub string_spells : (q : StringState) → spells_none (meaning (s.Text q)) ≡ spelled (s.Text q)
unfolding rules meaning string_spelled
string_spells string.Quote = refl
string_spells string.EmptyString = refl
string_spells string.StringBody = refl
string_spells string.StringEscape = refl
string_spells string.StringEnd = refl
string_spells string.BadStringBody = refl
string_spells string.BadStringEscape = refl

pub string_wide : (q : StringState) → left_wide (meaning (s.Text q)) ≡ led_wide (s.Text q)
unfolding rules meaning string_step
string_wide string.Quote = refl
string_wide string.EmptyString = refl
string_wide string.StringBody = refl
string_wide string.StringEscape = refl
string_wide string.StringEnd = refl
string_wide string.BadStringBody = refl
string_wide string.BadStringEscape = refl
