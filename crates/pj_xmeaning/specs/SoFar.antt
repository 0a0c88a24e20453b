-- What tokens say as far as a run over their terminals goes: all of them, or, as the beginning of an expression, those before the place where it
-- ends.
use Rattle.std.specs.Prelude.{List, [], drop}
use Rattle.pj_ll.specs.declared.parser.End.{End}
use Rattle.pj_ll.specs.declared.parser.End.TheVariants as outcome
use Rattle.pj_xtokens.specs.Tokens.{Lexed}
use Rattle.pj_xgrammar.specs.declared.rule.Rule.TheVariants as r
use Rattle.pj_xreadings.specs.Operands.{Operand}
use Rattle.pj_xmeaning.specs.Reach.{Reach, All, UpTo, Plain}
use Rattle.pj_xmeaning.specs.Reads.{Reads}

-- the tokens that are left where a run over the terminals ends
abbrev pub left_by : End → List Lexed → List Lexed
left_by outcome.Whole tokens = []
left_by (outcome.Stops place) tokens = drop place tokens
left_by (outcome.LeftOut place) tokens = drop place tokens
left_by (outcome.TooDeep place) tokens = drop place tokens

-- how far the tokens are read where a run ends so
abbrev pub reach_of : End → List Lexed → Reach
reach_of outcome.Whole tokens = All
reach_of end tokens = UpTo Plain (left_by end tokens)

-- where a run over the terminals ends so, the tokens say this up to there
abbrev pub SayUpTo : End → List Lexed → Operand → Type 0
SayUpTo end tokens a = Reads (reach_of end tokens) r.Expr 0 tokens (left_by end tokens) a
