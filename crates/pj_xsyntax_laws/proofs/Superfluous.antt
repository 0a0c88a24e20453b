-- What a level reads, each level reads in parentheses.
use Rattle.std.proofs.Common.{ℕ, suc, List, []}
use Rattle.std.proofs.lemmas.Bool.{false≢true}
use Rattle.std.specs.Prelude.{IsTrue}
use Rattle.pj_xtokens.specs.Tokens.{Lexed}
use Rattle.pj_xgrammar.specs.Notation.{t}
use Rattle.pj_xgrammar.specs.declared.rule.Rule.{Rule}
use Rattle.pj_xgrammar.specs.declared.rule.Rule.TheVariants as r
use Rattle.pj_xreadings.specs.Operands.{Operand, other}
use Rattle.pj_xmeaning.specs.Reach.{All}
use Rattle.pj_xmeaning.specs.Reads.{Takes, Reads, primary, no_predicate, parenthesized, inside}
use Rattle.pj_xsyntax_laws.specs.Levels.{is_level, LevelReads}
use Rattle.pj_xsyntax_laws.proofs.Climbing.{climb}
use Rattle.pj_xsyntax_laws.proofs.WholeReadings.{reading}

-- a primary expression is a step without predicates
step_of : {depth : ℕ} {xs ys : List Lexed} {a : Operand} → Reads All r.PrimaryExpr depth xs ys a → Reads All r.StepExpr depth xs ys a
step_of k = reading (primary {predicates = []} k (reading no_predicate))

-- so it is read by each level
at_level : (outer : Rule) (depth : ℕ) (xs ys : List Lexed) (a : Operand) → IsTrue (is_level outer) → Reads All r.PrimaryExpr depth xs ys a → LevelReads outer depth xs ys a
at_level r.Expr depth xs ys a is k = climb 15 0 depth xs ys a (step_of k)
at_level r.ExprSingle depth xs ys a is k = climb 14 1 depth xs ys a (step_of k)
at_level r.OrExpr depth xs ys a is k = climb 13 2 depth xs ys a (step_of k)
at_level r.AndExpr depth xs ys a is k = climb 12 3 depth xs ys a (step_of k)
at_level r.ComparisonExpr depth xs ys a is k = climb 11 4 depth xs ys a (step_of k)
at_level r.StringConcatExpr depth xs ys a is k = climb 10 5 depth xs ys a (step_of k)
at_level r.RangeExpr depth xs ys a is k = climb 9 6 depth xs ys a (step_of k)
at_level r.AdditiveExpr depth xs ys a is k = climb 8 7 depth xs ys a (step_of k)
at_level r.MultiplicativeExpr depth xs ys a is k = climb 7 8 depth xs ys a (step_of k)
at_level r.UnionExpr depth xs ys a is k = climb 6 9 depth xs ys a (step_of k)
at_level r.IntersectExceptExpr depth xs ys a is k = climb 5 10 depth xs ys a (step_of k)
at_level r.UnaryExpr depth xs ys a is k = climb 4 11 depth xs ys a (step_of k)
at_level r.SimpleMapExpr depth xs ys a is k = climb 3 12 depth xs ys a (step_of k)
at_level r.Operand depth xs ys a is k = climb 2 13 depth xs ys a (step_of k)
at_level r.PathExpr depth xs ys a is k = climb 1 14 depth xs ys a (step_of k)
at_level r.StepExpr depth xs ys a is k = climb 0 15 depth xs ys a (step_of k)
at_level r.PrimaryExpr depth xs ys a is k = k
at_level r.Parenthesized depth xs ys a is k = reading (inside (climb 15 0 depth xs ys a (step_of k)))
at_level _ depth xs ys a is k = absurd (false≢true is)

-- what a level reads may stand in parentheses
within : (inner : Rule) (depth : ℕ) (xs ys : List Lexed) (a : Operand) → LevelReads inner depth xs ys a → Reads All r.Parenthesized depth xs ys a
within r.Expr depth xs ys a k = reading (inside (climb 0 0 depth xs ys a k))
within r.ExprSingle depth xs ys a k = reading (inside (climb 1 0 depth xs ys a k))
within r.OrExpr depth xs ys a k = reading (inside (climb 2 0 depth xs ys a k))
within r.AndExpr depth xs ys a k = reading (inside (climb 3 0 depth xs ys a k))
within r.ComparisonExpr depth xs ys a k = reading (inside (climb 4 0 depth xs ys a k))
within r.StringConcatExpr depth xs ys a k = reading (inside (climb 5 0 depth xs ys a k))
within r.RangeExpr depth xs ys a k = reading (inside (climb 6 0 depth xs ys a k))
within r.AdditiveExpr depth xs ys a k = reading (inside (climb 7 0 depth xs ys a k))
within r.MultiplicativeExpr depth xs ys a k = reading (inside (climb 8 0 depth xs ys a k))
within r.UnionExpr depth xs ys a k = reading (inside (climb 9 0 depth xs ys a k))
within r.IntersectExceptExpr depth xs ys a k = reading (inside (climb 10 0 depth xs ys a k))
within r.UnaryExpr depth xs ys a k = reading (inside (climb 11 0 depth xs ys a k))
within r.SimpleMapExpr depth xs ys a k = reading (inside (climb 12 0 depth xs ys a k))
within r.Operand depth xs ys a k = reading (inside (climb 13 0 depth xs ys a k))
within r.PathExpr depth xs ys a k = reading (inside (climb 14 0 depth xs ys a k))
within r.StepExpr depth xs ys a k = reading (inside (climb 15 0 depth xs ys a k))
within r.PrimaryExpr depth xs ys a k = reading (inside (climb 15 0 depth xs ys a (step_of k)))
within r.Parenthesized depth xs ys a k = k
within _ depth xs ys a k = absurd k

pub in_parentheses : (inner outer : Rule) (depth : ℕ) (xs ys zs us : List Lexed) (a : Operand) → IsTrue (is_level outer) → Takes All (suc depth) (t "(") xs ys → LevelReads inner (suc depth) ys zs a → Takes All depth (t ")") zs us
    → LevelReads outer depth xs us (other a.tree a.names)
in_parentheses inner outer depth xs ys zs us a is open_ read close_ =
    at_level outer depth xs us (other a.tree a.names) is (reading (parenthesized {a = a} open_ (within inner (suc depth) ys zs a read) close_))
