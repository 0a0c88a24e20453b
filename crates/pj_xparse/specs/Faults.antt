-- The first fault of a text that spells no expression.
use Rattle.std.specs.Prelude.{◌≡◌, ℕ, ◌+◌, List, Option, Some, None, slice_get}
use Rattle.pj_ll.specs.declared.parser.End.{End}
use Rattle.pj_ll.specs.declared.parser.End.TheVariants as outcome
use Rattle.pj_xtokens.specs.Size.{size}
use Rattle.pj_xtokens.specs.Tokens.{Lexed, Tokens}
use Rattle.pj_xtokens.specs.declared.token.End as token
use Rattle.pj_xtokens.specs.declared.token.End.TheVariants as ends
use Rattle.pj_xgrammar.specs.XPath.{greatest_nesting}
use Rattle.pj_xreadings.specs.Operands.{Operand}
use Rattle.pj_xparse.specs.NameFaults as named
use Rattle.pj_xparse.specs.NameFaults.{Fault, first_fault}
use Rattle.pj_xparse.specs.Outcomes.{IsOutcome, SaySoFar}
use Rattle.pj_xparse.specs.declared.fault.XSyntax.{XSyntax}
use Rattle.pj_xparse.specs.declared.fault.XSyntax.TheVariants.{Token, Expected, UnknownFunction, UnknownVariable, Outside, Deep}

-- a fault of what is named
abbrev pub named_fault : Fault → XSyntax
named_fault (named.Form from) = Expected from
named_fault (named.Function name from) = UnknownFunction name from
named_fault (named.Variable name from) = UnknownVariable name

-- the fault behind the last token, where something would have to stand there
abbrev pub fault_of_end : token.End → XSyntax
fault_of_end (ends.Text length) = Expected length
fault_of_end (ends.Fault from) = Token from

-- the fault of the token at a place, if there is one, or of what stands behind the last token
abbrev pub fault_at : (ℕ → XSyntax) → Option Lexed → token.End → XSyntax
fault_at fault (Some x) end = fault x.from
fault_at fault None end = fault_of_end end

-- an expression has a fault only where no token begins behind it
abbrev pub fault_behind : token.End → Option XSyntax
fault_behind (ends.Text length) = None
fault_behind (ends.Fault from) = Some (Token from)

-- the fault of the tokens, and of what stands behind them
abbrev pub syntax_fault : List Lexed → token.End → End → Option XSyntax
syntax_fault ts end outcome.Whole = fault_behind end
syntax_fault ts end (outcome.Stops place) = Some (fault_at Expected (slice_get ts place) end)
syntax_fault ts end (outcome.LeftOut place) = Some (fault_at Outside (slice_get ts place) end)
syntax_fault ts end (outcome.TooDeep place) = Some (Deep (greatest_nesting + 1))

-- What is named stands before the place where the tokens have their fault, so its fault is the earlier one.
abbrev pub named_first : Option Fault → Option XSyntax → Option XSyntax
named_first (Some fault) later = Some (named_fault fault)
named_first None later = later

-- The first fault of the text, in characters, where the rule set gives these variables. What is named is what the tokens name as far as they are
-- read: all of them, where they are an expression; else before the place of their fault, or before the token in front of it (`$for $x`, `$y/`), which is then
-- a word or a `/` that names no more than a variable behind a `$`.
pub record IsFault (variables : List (List ℕ)) (text : List ℕ) (fault : XSyntax) : Type 0 where
  pub tokens : List Lexed
  pub end : token.End
  pub outcome : End
  pub said : Operand
  pub read : Tokens (size text) text tokens end
  pub is_outcome : IsOutcome tokens outcome
  pub say : SaySoFar tokens said
  pub is : Some fault ≡ named_first (first_fault variables said.names) (syntax_fault tokens end outcome)
