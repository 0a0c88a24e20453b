-- For each rule, by its number, the productions of some tokens that it spells, and these tokens. They are what they are whatever
-- stands behind them.
use Rattle.std.proofs.Common.{ℕ, List, [], ◌∷◌, codes}
use Rattle.pj_xtokens.specs.Tokens.{Lexed}
use Rattle.pj_xtokens.specs.declared.token.TokenKind.TheVariants as t
use Rattle.pj_xtokens.specs.declared.token.Sign.{Sign}
use Rattle.pj_xtokens.specs.declared.token.Sign.TheVariants as s

abbrev pub sign : List ℕ → Sign → Lexed
sign text q = record { kind = t.Sign q; text = text; from = 0 }

abbrev pub word : List ℕ → Lexed
word text = record { kind = t.Name; text = text; from = 0 }

pub record Ending : Type 0 where
  pub productions : List ℕ
  pub tokens : List Lexed

abbrev ending : List ℕ → List Lexed → Ending
ending ps xs = record { productions = ps; tokens = xs }

unfoldable pub endings : List Ending
endings =
    ending (0 ∷ 8 ∷ 22 ∷ 25 ∷ 28 ∷ 36 ∷ 39 ∷ 42 ∷ 46 ∷ 51 ∷ 55 ∷ 61 ∷ 62 ∷ 65 ∷ 88 ∷ 89 ∷ 93 ∷ 122 ∷ 92 ∷ 84 ∷ 64 ∷ 58 ∷ 54 ∷ 50 ∷ 45 ∷ 41 ∷ 38 ∷ 35 ∷ 27 ∷ 24 ∷ 2 ∷ []) (sign (codes ".") s.Dot ∷ [])  -- Expr
    ∷ ending (2 ∷ []) ([])  -- ExprTail
    ∷ ending (8 ∷ 22 ∷ 25 ∷ 28 ∷ 36 ∷ 39 ∷ 42 ∷ 46 ∷ 51 ∷ 55 ∷ 61 ∷ 62 ∷ 65 ∷ 88 ∷ 89 ∷ 93 ∷ 122 ∷ 92 ∷ 84 ∷ 64 ∷ 58 ∷ 54 ∷ 50 ∷ 45 ∷ 41 ∷ 38 ∷ 35 ∷ 27 ∷ 24 ∷ []) (sign (codes ".") s.Dot ∷ [])  -- ExprSingle
    ∷ ending (9 ∷ 133 ∷ 137 ∷ 15 ∷ 8 ∷ 22 ∷ 25 ∷ 28 ∷ 36 ∷ 39 ∷ 42 ∷ 46 ∷ 51 ∷ 55 ∷ 61 ∷ 62 ∷ 65 ∷ 88 ∷ 89 ∷ 93 ∷ 122 ∷ 92 ∷ 84 ∷ 64 ∷ 58 ∷ 54 ∷ 50 ∷ 45 ∷ 41 ∷ 38 ∷ 35 ∷ 27 ∷ 24 ∷ 11 ∷ []) (sign (codes "$") s.Dollar ∷ word (codes "x") ∷ word (codes "in") ∷ sign (codes ".") s.Dot ∷ [])  -- InBindings
    ∷ ending (11 ∷ []) ([])  -- InBindingsTail
    ∷ ending (12 ∷ 133 ∷ 137 ∷ 16 ∷ 8 ∷ 22 ∷ 25 ∷ 28 ∷ 36 ∷ 39 ∷ 42 ∷ 46 ∷ 51 ∷ 55 ∷ 61 ∷ 62 ∷ 65 ∷ 88 ∷ 89 ∷ 93 ∷ 122 ∷ 92 ∷ 84 ∷ 64 ∷ 58 ∷ 54 ∷ 50 ∷ 45 ∷ 41 ∷ 38 ∷ 35 ∷ 27 ∷ 24 ∷ 14 ∷ []) (sign (codes "$") s.Dollar ∷ word (codes "x") ∷ sign (codes ":=") s.ColonEqual ∷ sign (codes ".") s.Dot ∷ [])  -- LetBindings
    ∷ ending (14 ∷ []) ([])  -- LetBindingsTail
    ∷ ending (15 ∷ 8 ∷ 22 ∷ 25 ∷ 28 ∷ 36 ∷ 39 ∷ 42 ∷ 46 ∷ 51 ∷ 55 ∷ 61 ∷ 62 ∷ 65 ∷ 88 ∷ 89 ∷ 93 ∷ 122 ∷ 92 ∷ 84 ∷ 64 ∷ 58 ∷ 54 ∷ 50 ∷ 45 ∷ 41 ∷ 38 ∷ 35 ∷ 27 ∷ 24 ∷ []) (word (codes "in") ∷ sign (codes ".") s.Dot ∷ [])  -- InClause
    ∷ ending (16 ∷ 8 ∷ 22 ∷ 25 ∷ 28 ∷ 36 ∷ 39 ∷ 42 ∷ 46 ∷ 51 ∷ 55 ∷ 61 ∷ 62 ∷ 65 ∷ 88 ∷ 89 ∷ 93 ∷ 122 ∷ 92 ∷ 84 ∷ 64 ∷ 58 ∷ 54 ∷ 50 ∷ 45 ∷ 41 ∷ 38 ∷ 35 ∷ 27 ∷ 24 ∷ []) (sign (codes ":=") s.ColonEqual ∷ sign (codes ".") s.Dot ∷ [])  -- AssignClause
    ∷ ending (17 ∷ 8 ∷ 22 ∷ 25 ∷ 28 ∷ 36 ∷ 39 ∷ 42 ∷ 46 ∷ 51 ∷ 55 ∷ 61 ∷ 62 ∷ 65 ∷ 88 ∷ 89 ∷ 93 ∷ 122 ∷ 92 ∷ 84 ∷ 64 ∷ 58 ∷ 54 ∷ 50 ∷ 45 ∷ 41 ∷ 38 ∷ 35 ∷ 27 ∷ 24 ∷ []) (word (codes "return") ∷ sign (codes ".") s.Dot ∷ [])  -- ReturnClause
    ∷ ending (18 ∷ 8 ∷ 22 ∷ 25 ∷ 28 ∷ 36 ∷ 39 ∷ 42 ∷ 46 ∷ 51 ∷ 55 ∷ 61 ∷ 62 ∷ 65 ∷ 88 ∷ 89 ∷ 93 ∷ 122 ∷ 92 ∷ 84 ∷ 64 ∷ 58 ∷ 54 ∷ 50 ∷ 45 ∷ 41 ∷ 38 ∷ 35 ∷ 27 ∷ 24 ∷ []) (word (codes "satisfies") ∷ sign (codes ".") s.Dot ∷ [])  -- SatisfiesClause
    ∷ ending (19 ∷ 0 ∷ 8 ∷ 22 ∷ 25 ∷ 28 ∷ 36 ∷ 39 ∷ 42 ∷ 46 ∷ 51 ∷ 55 ∷ 61 ∷ 62 ∷ 65 ∷ 88 ∷ 89 ∷ 93 ∷ 122 ∷ 92 ∷ 84 ∷ 64 ∷ 58 ∷ 54 ∷ 50 ∷ 45 ∷ 41 ∷ 38 ∷ 35 ∷ 27 ∷ 24 ∷ 2 ∷ []) (sign (codes "(") s.LeftParenthesis ∷ sign (codes ".") s.Dot ∷ sign (codes ")") s.RightParenthesis ∷ [])  -- TestClause
    ∷ ending (20 ∷ 8 ∷ 22 ∷ 25 ∷ 28 ∷ 36 ∷ 39 ∷ 42 ∷ 46 ∷ 51 ∷ 55 ∷ 61 ∷ 62 ∷ 65 ∷ 88 ∷ 89 ∷ 93 ∷ 122 ∷ 92 ∷ 84 ∷ 64 ∷ 58 ∷ 54 ∷ 50 ∷ 45 ∷ 41 ∷ 38 ∷ 35 ∷ 27 ∷ 24 ∷ []) (word (codes "then") ∷ sign (codes ".") s.Dot ∷ [])  -- ThenClause
    ∷ ending (21 ∷ 8 ∷ 22 ∷ 25 ∷ 28 ∷ 36 ∷ 39 ∷ 42 ∷ 46 ∷ 51 ∷ 55 ∷ 61 ∷ 62 ∷ 65 ∷ 88 ∷ 89 ∷ 93 ∷ 122 ∷ 92 ∷ 84 ∷ 64 ∷ 58 ∷ 54 ∷ 50 ∷ 45 ∷ 41 ∷ 38 ∷ 35 ∷ 27 ∷ 24 ∷ []) (word (codes "else") ∷ sign (codes ".") s.Dot ∷ [])  -- ElseClause
    ∷ ending (22 ∷ 25 ∷ 28 ∷ 36 ∷ 39 ∷ 42 ∷ 46 ∷ 51 ∷ 55 ∷ 61 ∷ 62 ∷ 65 ∷ 88 ∷ 89 ∷ 93 ∷ 122 ∷ 92 ∷ 84 ∷ 64 ∷ 58 ∷ 54 ∷ 50 ∷ 45 ∷ 41 ∷ 38 ∷ 35 ∷ 27 ∷ 24 ∷ []) (sign (codes ".") s.Dot ∷ [])  -- OrExpr
    ∷ ending (24 ∷ []) ([])  -- OrTail
    ∷ ending (25 ∷ 28 ∷ 36 ∷ 39 ∷ 42 ∷ 46 ∷ 51 ∷ 55 ∷ 61 ∷ 62 ∷ 65 ∷ 88 ∷ 89 ∷ 93 ∷ 122 ∷ 92 ∷ 84 ∷ 64 ∷ 58 ∷ 54 ∷ 50 ∷ 45 ∷ 41 ∷ 38 ∷ 35 ∷ 27 ∷ []) (sign (codes ".") s.Dot ∷ [])  -- AndExpr
    ∷ ending (27 ∷ []) ([])  -- AndTail
    ∷ ending (28 ∷ 36 ∷ 39 ∷ 42 ∷ 46 ∷ 51 ∷ 55 ∷ 61 ∷ 62 ∷ 65 ∷ 88 ∷ 89 ∷ 93 ∷ 122 ∷ 92 ∷ 84 ∷ 64 ∷ 58 ∷ 54 ∷ 50 ∷ 45 ∷ 41 ∷ 38 ∷ 35 ∷ []) (sign (codes ".") s.Dot ∷ [])  -- ComparisonExpr
    ∷ ending (35 ∷ []) ([])  -- ComparisonTail
    ∷ ending (36 ∷ 39 ∷ 42 ∷ 46 ∷ 51 ∷ 55 ∷ 61 ∷ 62 ∷ 65 ∷ 88 ∷ 89 ∷ 93 ∷ 122 ∷ 92 ∷ 84 ∷ 64 ∷ 58 ∷ 54 ∷ 50 ∷ 45 ∷ 41 ∷ 38 ∷ []) (sign (codes ".") s.Dot ∷ [])  -- StringConcatExpr
    ∷ ending (38 ∷ []) ([])  -- StringConcatTail
    ∷ ending (39 ∷ 42 ∷ 46 ∷ 51 ∷ 55 ∷ 61 ∷ 62 ∷ 65 ∷ 88 ∷ 89 ∷ 93 ∷ 122 ∷ 92 ∷ 84 ∷ 64 ∷ 58 ∷ 54 ∷ 50 ∷ 45 ∷ 41 ∷ []) (sign (codes ".") s.Dot ∷ [])  -- RangeExpr
    ∷ ending (41 ∷ []) ([])  -- RangeTail
    ∷ ending (42 ∷ 46 ∷ 51 ∷ 55 ∷ 61 ∷ 62 ∷ 65 ∷ 88 ∷ 89 ∷ 93 ∷ 122 ∷ 92 ∷ 84 ∷ 64 ∷ 58 ∷ 54 ∷ 50 ∷ 45 ∷ []) (sign (codes ".") s.Dot ∷ [])  -- AdditiveExpr
    ∷ ending (45 ∷ []) ([])  -- AdditiveTail
    ∷ ending (46 ∷ 51 ∷ 55 ∷ 61 ∷ 62 ∷ 65 ∷ 88 ∷ 89 ∷ 93 ∷ 122 ∷ 92 ∷ 84 ∷ 64 ∷ 58 ∷ 54 ∷ 50 ∷ []) (sign (codes ".") s.Dot ∷ [])  -- MultiplicativeExpr
    ∷ ending (50 ∷ []) ([])  -- MultiplicativeTail
    ∷ ending (51 ∷ 55 ∷ 61 ∷ 62 ∷ 65 ∷ 88 ∷ 89 ∷ 93 ∷ 122 ∷ 92 ∷ 84 ∷ 64 ∷ 58 ∷ 54 ∷ []) (sign (codes ".") s.Dot ∷ [])  -- UnionExpr
    ∷ ending (54 ∷ []) ([])  -- UnionTail
    ∷ ending (55 ∷ 61 ∷ 62 ∷ 65 ∷ 88 ∷ 89 ∷ 93 ∷ 122 ∷ 92 ∷ 84 ∷ 64 ∷ 58 ∷ []) (sign (codes ".") s.Dot ∷ [])  -- IntersectExceptExpr
    ∷ ending (58 ∷ []) ([])  -- IntersectExceptTail
    ∷ ending (61 ∷ 62 ∷ 65 ∷ 88 ∷ 89 ∷ 93 ∷ 122 ∷ 92 ∷ 84 ∷ 64 ∷ []) (sign (codes ".") s.Dot ∷ [])  -- UnaryExpr
    ∷ ending (62 ∷ 65 ∷ 88 ∷ 89 ∷ 93 ∷ 122 ∷ 92 ∷ 84 ∷ 64 ∷ []) (sign (codes ".") s.Dot ∷ [])  -- SimpleMapExpr
    ∷ ending (64 ∷ []) ([])  -- SimpleMapTail
    ∷ ending (65 ∷ 88 ∷ 89 ∷ 93 ∷ 122 ∷ 92 ∷ 84 ∷ []) (sign (codes ".") s.Dot ∷ [])  -- Operand
    ∷ ending (84 ∷ []) ([])  -- LeftOutOperator
    ∷ ending (88 ∷ 89 ∷ 93 ∷ 122 ∷ 92 ∷ []) (sign (codes ".") s.Dot ∷ [])  -- PathExpr
    ∷ ending (89 ∷ 93 ∷ 122 ∷ 92 ∷ []) (sign (codes ".") s.Dot ∷ [])  -- RelativePathExpr
    ∷ ending (92 ∷ []) ([])  -- RelativePathTail
    ∷ ending (93 ∷ 122 ∷ []) (sign (codes ".") s.Dot ∷ [])  -- StepExpr
    ∷ ending (111 ∷ 122 ∷ []) ([])  -- AxisTail
    ∷ ending (113 ∷ 122 ∷ []) ([])  -- NameTail
    ∷ ending (114 ∷ 137 ∷ []) (word (codes "x") ∷ [])  -- NodeTest
    ∷ ending (120 ∷ []) ([])  -- KindTail
    ∷ ending (122 ∷ []) ([])  -- PredicateList
    ∷ ending (123 ∷ []) (record { kind = t.Integer; text = codes "1"; from = 0 } ∷ [])  -- PrimaryExpr
    ∷ ending (128 ∷ []) ([])  -- Parenthesized
    ∷ ending (130 ∷ []) ([])  -- Arguments
    ∷ ending (132 ∷ []) ([])  -- ArgumentsTail
    ∷ ending (133 ∷ 137 ∷ []) (word (codes "x") ∷ [])  -- VarName
    ∷ ending (137 ∷ []) (word (codes "x") ∷ [])  -- PlainName
    ∷ []
