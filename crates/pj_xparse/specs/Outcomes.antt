-- Which tokens are an expression, and the first fault of those that are none, by what is read of them; and what they say as far as they are read.
--
-- A place is a number of tokens, from 0: that of the token there, and the number of all tokens for the end.
use Rattle.std.specs.Prelude.{◌≡◌, ℕ, ◌+◌, ◌<◌, ◌≤◌, ◌⊎◌, true, false, List, length, take, slice_get}
use Rattle.pj_ll.specs.declared.parser.End.{End}
use Rattle.pj_ll.specs.declared.parser.End.TheVariants.{Whole, Stops, LeftOut, TooDeep}
use Rattle.pj_xtokens.specs.Tokens.{Lexed}
use Rattle.pj_xgrammar.specs.Standing.{is_left_out_token, stands_apart}
use Rattle.pj_xreadings.specs.Operands.{Operand}
use Rattle.pj_xmeaning.specs.Begun.{AreBegun, BeginsLeftOut, NestsTooDeep, SayTo}
use Rattle.pj_xmeaning.specs.Reach.{Plain}
use Rattle.pj_xmeaning.specs.Reads.{AreRead}

-- the tokens are an expression that nests no deeper than may be
abbrev pub IsWhole : List Lexed → Type 0
IsWhole tokens = (a : Operand) × AreRead tokens a

-- A construct that is left out begins at the place: one that begins there by the rules of the grammar, or a decimal or double number, wherever it
-- stands.
abbrev pub IsLeftOut : List Lexed → ℕ → Type 0
IsLeftOut tokens i = BeginsLeftOut tokens i ⊎ (is_left_out_token (slice_get tokens i) ≡ true)

-- at each place below, nothing is left out by the rules of the grammar, and not too much is open
pub record AreClear (tokens : List Lexed) (i : ℕ) : Type 0 where
  pub not_left_out : (j : ℕ) → j < i → ¬ BeginsLeftOut tokens j
  pub not_too_deep : (j : ℕ) → j < i → ¬ NestsTooDeep tokens j

-- The tokens before the place begin an expression, but the one there, or the end, cannot follow them. Nothing is left out there or before, and not too
-- much is open. (Tokens with a decimal or a double number among them begin no expression.)
pub record CannotFollow (tokens : List Lexed) (i : ℕ) : Type 0 where
  pub within : i ≤ length tokens
  pub before : AreBegun (take i tokens)
  pub token : i < length tokens → ¬ AreBegun (take (i + 1) tokens)
  pub at_end : i ≡ length tokens → ¬ IsWhole tokens
  pub kept : ¬ IsLeftOut tokens i
  pub clear : AreClear tokens (i + 1)

-- The first place at which something is left out; nothing before it nests too deep. What nests too deep is reached where the token before ends; so
-- where too much is open at this place, what is left out stands directly behind that token.
pub record IsLeftOutFirst (tokens : List Lexed) (i : ℕ) : Type 0 where
  pub before : AreBegun (take i tokens)
  pub left_out : IsLeftOut tokens i
  pub reached : NestsTooDeep tokens i → stands_apart tokens i ≡ false
  pub clear : AreClear tokens i

-- the first place at which too much is open; nothing before it is left out, and what is left out there begins behind white space or a comment
pub record IsTooDeepFirst (tokens : List Lexed) (i : ℕ) : Type 0 where
  pub within : i ≤ length tokens
  pub before : AreBegun (take i tokens)
  pub deep : NestsTooDeep tokens i
  pub reached : IsLeftOut tokens i → stands_apart tokens i ≡ true
  pub clear : AreClear tokens i

-- The outcome of tokens: all of them are an expression; or at a place a token or the end cannot follow, something is left out, or too much is open.
abbrev pub IsOutcome : List Lexed → End → Type 0
IsOutcome tokens Whole = IsWhole tokens
IsOutcome tokens (Stops i) = CannotFollow tokens i
IsOutcome tokens (LeftOut i) = IsLeftOutFirst tokens i
IsOutcome tokens (TooDeep i) = IsTooDeepFirst tokens i

-- ---- as far as they are read

-- No place before this one nests too deep; and this is the end, or too much is open here, or the tokens up to and including the one here are not read as
-- the beginning of an expression.
pub record ReadingEnds (tokens : List Lexed) (i : ℕ) : Type 0 where
  pub within : i ≤ length tokens
  pub not_too_deep : (j : ℕ) → j < i → ¬ NestsTooDeep tokens j
  pub no_further : i < length tokens → ¬ NestsTooDeep tokens i → (a : Operand) → ¬ SayTo Plain tokens (i + 1) a

-- The tokens say this as far as they are read: all of them as an expression; or, where they are none, as the beginning of one those before the first
-- place at which one cannot be read or too much is open, which is the end where each can be read (`a[`).
pub data SaySoFar (tokens : List Lexed) : Operand → Type 0 where
  whole : {a : Operand} → AreRead tokens a → SaySoFar tokens a
  beginning : {a : Operand} (i : ℕ) → ¬ IsWhole tokens → SayTo Plain tokens i a → ReadingEnds tokens i → SaySoFar tokens a
