-- Which tokens begin an expression, and where one nests too deep or a construct begins that is left out, by what is read of them.
--
-- A place is a number of tokens, from 0: that of the token there, and the number of all tokens for the end.
use Rattle.std.specs.Prelude.{◌≢◌, ℕ, suc, ◌<◌, List, ◌++◌, length, drop}
use Rattle.pj_xtokens.specs.Tokens.{Lexed}
use Rattle.pj_xgrammar.specs.declared.rule.Rule.TheVariants as r
use Rattle.pj_xreadings.specs.Operands.{Operand}
use Rattle.pj_xmeaning.specs.Reach.{Ending, Plain, Deep, Outside, UpTo}
use Rattle.pj_xmeaning.specs.Reads.{Reads}

-- Before the place the tokens are read as the beginning of an expression that ends so, and say this. At the first place nothing is read.
abbrev pub SayTo : Ending → List Lexed → ℕ → Operand → Type 0
SayTo ending tokens i a = Reads (UpTo ending (drop i tokens)) r.Expr 0 tokens (drop i tokens) a

-- with some others behind them, the tokens are read as the beginning of an expression
abbrev pub AreBegun : List Lexed → Type 0
AreBegun tokens = (more : List Lexed) × ((a : Operand) × Reads (UpTo Plain more) r.Expr 0 (tokens ++ more) more a)

-- a token stands before the place, and behind it more is open than may be
abbrev pub NestsTooDeep : List Lexed → ℕ → Type 0
NestsTooDeep tokens i = (tokens ≢ drop i tokens) × ((a : Operand) × SayTo Deep tokens i a)

-- with the token at the place a construct begins that is left out
abbrev pub BeginsLeftOut : List Lexed → ℕ → Type 0
BeginsLeftOut tokens i = (i < length tokens) × ((a : Operand) × SayTo Outside tokens (suc i) a)
