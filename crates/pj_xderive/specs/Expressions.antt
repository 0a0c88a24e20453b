-- Which tokens are an expression by the grammar's leftmost derivations, which can begin one, and the first fault of those that are none.
--
-- A place is a number of tokens, from 0: that of the token there, and the number of all tokens for the end.
use Rattle.std.specs.Prelude.{◌≡◌, ℕ, ◌+◌, ◌<◌, ◌≤◌, ◌⊎◌, true, false, List, ◌++◌, length, take, slice_get}
use Rattle.pj_ll.specs.Leads.{Derives, IsSentence}
use Rattle.pj_ll.specs.Outcome as terminals
use Rattle.pj_ll.specs.Outcome.{IsLeftOutAt, IsTooDeepAt, AreClearBelow, LeadBehind}
use Rattle.pj_ll.specs.declared.parser.End.{End}
use Rattle.pj_ll.specs.declared.parser.End.TheVariants as ends
use Rattle.pj_xtokens.specs.Tokens.{Lexed}
use Rattle.pj_xgrammar.specs.Standing.{is_left_out_token, stands_apart}
use Rattle.pj_xgrammar.specs.Terminals.{numbers}
use Rattle.pj_xgrammar.specs.XPath.{greatest_nesting, xpath_grammar}

-- the productions derive the tokens
abbrev pub AreDerived : List Lexed → List ℕ → Type 0
AreDerived tokens productions = Derives xpath_grammar (numbers tokens) productions

abbrev pub IsExpression : List Lexed → Type 0
IsExpression tokens = IsSentence xpath_grammar (numbers tokens)

-- the tokens begin an expression
abbrev pub CanGoOn : List Lexed → Type 0
CanGoOn tokens = (more : List Lexed) × IsExpression (tokens ++ more)

-- A construct that is left out begins at the place: one that the grammar has there, or a decimal or double number, wherever it stands.
abbrev pub IsLeftOut : List Lexed → ℕ → Type 0
IsLeftOut tokens i = IsLeftOutAt xpath_grammar (numbers tokens) i ⊎ (is_left_out_token (slice_get tokens i) ≡ true)

-- at the place more is open than may be
abbrev pub IsTooDeep : List Lexed → ℕ → Type 0
IsTooDeep tokens i = IsTooDeepAt xpath_grammar (numbers tokens) greatest_nesting i

-- at each place below, nothing that the grammar has there is left out, and not too much is open
abbrev pub AreClear : List Lexed → ℕ → Type 0
AreClear tokens i = AreClearBelow xpath_grammar (numbers tokens) greatest_nesting i

-- the tokens are an expression
pub record IsWhole (tokens : List Lexed) : Type 0 where
  pub expression : IsExpression tokens
  pub clear : AreClear tokens (length tokens + 1)

-- the tokens before the place begin an expression, but the one there, or the end, cannot follow them; nothing is left out there
pub record CannotFollow (tokens : List Lexed) (i : ℕ) : Type 0 where
  pub within : i ≤ length tokens
  pub before : CanGoOn (take i tokens)
  pub token : i < length tokens → ¬ CanGoOn (take (i + 1) tokens)
  pub at_end : i ≡ length tokens → ¬ IsExpression tokens
  pub kept : ¬ IsLeftOut tokens i
  pub clear : AreClear tokens (i + 1)

-- The first place at which something is left out; nothing before it nests too deep. What nests too deep is reached where the token before ends; so
-- where too much is open at this place, what is left out begins right there.
pub record IsLeftOutFirst (tokens : List Lexed) (i : ℕ) : Type 0 where
  pub before : CanGoOn (take i tokens)
  pub left_out : IsLeftOut tokens i
  pub reached : IsTooDeep tokens i → stands_apart tokens i ≡ false
  pub clear : AreClear tokens i

-- the first place at which too much is open; nothing before it is left out, and what is left out there begins behind white space or a comment
pub record IsTooDeepFirst (tokens : List Lexed) (i : ℕ) : Type 0 where
  pub within : i ≤ length tokens
  pub before : CanGoOn (take i tokens)
  pub deep : IsTooDeep tokens i
  pub reached : IsLeftOut tokens i → stands_apart tokens i ≡ true
  pub clear : AreClear tokens i

abbrev pub IsOutcome : List Lexed → End → Type 0
IsOutcome tokens ends.Whole = IsWhole tokens
IsOutcome tokens (ends.Stops i) = CannotFollow tokens i
IsOutcome tokens (ends.LeftOut i) = IsLeftOutFirst tokens i
IsOutcome tokens (ends.TooDeep i) = IsTooDeepFirst tokens i

-- the place at which an outcome is reached; that of an expression is the end
abbrev pub place_of : List Lexed → End → ℕ
place_of tokens ends.Whole = length tokens
place_of tokens (ends.Stops i) = i
place_of tokens (ends.LeftOut i) = i
place_of tokens (ends.TooDeep i) = i

-- the productions are those that are used up to the last of the first tokens
abbrev pub LeadBehindFirst : List Lexed → ℕ → List ℕ → Type 0
LeadBehindFirst tokens i productions = LeadBehind xpath_grammar (take i (numbers tokens)) productions

-- what the productions derive: all tokens, or those before the fault. Where a token cannot follow because the one before it is
-- a word that has a meaning before it alone, and that cannot stand there, they come to that word.
abbrev pub LeadTo : List Lexed → List ℕ → End → Type 0
LeadTo tokens productions ends.Whole = AreDerived tokens productions
LeadTo tokens productions (ends.Stops i) = (k : ℕ) × (k ≤ i) × (i ≤ k + 1) × LeadBehindFirst tokens k productions
LeadTo tokens productions (ends.LeftOut i) = LeadBehindFirst tokens i productions
LeadTo tokens productions (ends.TooDeep i) = LeadBehindFirst tokens i productions

-- The productions are those that derive the tokens as far as their terminals go: all tokens, or those before the first terminal
-- that cannot follow, is left out, or stands where too much is open. No other productions are.
pub record IsRun (tokens : List Lexed) (productions : List ℕ) : Type 0 where
  pub end : End
  pub ends : terminals.IsEnd xpath_grammar (numbers tokens) greatest_nesting end
  pub leads : terminals.LeadTo xpath_grammar (numbers tokens) productions end
