-- The levels of operators: the rules that read an expression, from the comma's down to that of primary expressions (XPath 2.0, A.1 and A.4, with those
-- of XPath 3.1, A.4), and the rule of what stands in parentheses, which may be nothing. Clauses, as that of `return`, are no levels: each begins with
-- a word or a sign of its own. Neither is `RelativePathExpr`, which says steps in a row.
use Rattle.std.specs.Prelude.{ℕ, Bool, true, false, List}
use Rattle.pj_xtokens.specs.Tokens.{Lexed}
use Rattle.pj_xgrammar.specs.declared.rule.Rule.{Rule}
use Rattle.pj_xgrammar.specs.declared.rule.Rule.TheVariants as r
use Rattle.pj_xreadings.specs.Operands.{Operand}
use Rattle.pj_xmeaning.specs.Reach.{All}
use Rattle.pj_xmeaning.specs.Reads.{Reads}

-- the rule is a level
abbrev pub is_level : Rule → Bool
is_level r.Expr = true
is_level r.ExprSingle = true
is_level r.OrExpr = true
is_level r.AndExpr = true
is_level r.ComparisonExpr = true
is_level r.StringConcatExpr = true
is_level r.RangeExpr = true
is_level r.AdditiveExpr = true
is_level r.MultiplicativeExpr = true
is_level r.UnionExpr = true
is_level r.IntersectExceptExpr = true
is_level r.UnaryExpr = true
is_level r.SimpleMapExpr = true
is_level r.Operand = true
is_level r.PathExpr = true
is_level r.StepExpr = true
is_level r.PrimaryExpr = true
is_level r.Parenthesized = true
is_level _ = false

-- What a level reads (`Reads`): where so many things that nest are open, the expression stands at the front of the first tokens, and the second ones
-- stand behind it. Of a rule that is no level nothing is said here.
abbrev pub LevelReads : Rule → ℕ → List Lexed → List Lexed → Operand → Type 0
LevelReads r.Expr = Reads All r.Expr
LevelReads r.ExprSingle = Reads All r.ExprSingle
LevelReads r.OrExpr = Reads All r.OrExpr
LevelReads r.AndExpr = Reads All r.AndExpr
LevelReads r.ComparisonExpr = Reads All r.ComparisonExpr
LevelReads r.StringConcatExpr = Reads All r.StringConcatExpr
LevelReads r.RangeExpr = Reads All r.RangeExpr
LevelReads r.AdditiveExpr = Reads All r.AdditiveExpr
LevelReads r.MultiplicativeExpr = Reads All r.MultiplicativeExpr
LevelReads r.UnionExpr = Reads All r.UnionExpr
LevelReads r.IntersectExceptExpr = Reads All r.IntersectExceptExpr
LevelReads r.UnaryExpr = Reads All r.UnaryExpr
LevelReads r.SimpleMapExpr = Reads All r.SimpleMapExpr
LevelReads r.Operand = Reads All r.Operand
LevelReads r.PathExpr = Reads All r.PathExpr
LevelReads r.StepExpr = Reads All r.StepExpr
LevelReads r.PrimaryExpr = Reads All r.PrimaryExpr
LevelReads r.Parenthesized = Reads All r.Parenthesized
LevelReads _ = λ depth xs ys a. ⊥
