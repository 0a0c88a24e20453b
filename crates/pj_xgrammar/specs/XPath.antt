-- The grammar of expressions: the productions of each rule. Rule `Expr` is a whole expression.
--
-- It is XPath 2.0, A.1, in its order but for the names of variables, which stand at the end, with `let`, `||` and `!` of XPath 3.1, in a form that needs one token of lookahead: where the
-- standard repeats operands with operators between them, a rule `..Tail` has an operator, the next operand and the rest; and
-- where two productions of the standard begin with one token, as a call and a node test do, a rule has what stands behind it.
-- The notation is that of `Notation`.
use Rattle.std.specs.Prelude.{ℕ, List, [], ◌∷◌, ◌++◌, map}
use Rattle.pj_ll.specs.declared.grammar.Symbol.{Symbol}
use Rattle.pj_ll.specs.Grammar.{Grammar, Line}
use Rattle.pj_xgrammar.specs.declared.rule.Rule.{Rule}
use Rattle.pj_xgrammar.specs.declared.rule.Rule.TheVariants as r
use Rattle.pj_xgrammar.specs.Notation.{R, t, name, integer, string, axis, lone_slash, close, nothing, left_out, left_out_decimal, left_out_double, rule_number}

unfoldable pub xpath : Rule → List (List Symbol)
-- XPath 2.0, 2: Expr
xpath r.Expr = (R r.ExprSingle ∷ R r.ExprTail ∷ []) ∷ []
xpath r.ExprTail =
    (t "," ∷ R r.ExprSingle ∷ R r.ExprTail ∷ [])
    ∷ nothing
    ∷ []
-- 3 to 7: ExprSingle, ForExpr, QuantifiedExpr, IfExpr; XPath 3.1, 3.10: LetExpr
xpath r.ExprSingle =
    (t "for" ∷ R r.InBindings ∷ R r.ReturnClause ∷ [])
    ∷ (t "let" ∷ R r.LetBindings ∷ R r.ReturnClause ∷ [])
    ∷ (t "some" ∷ R r.InBindings ∷ R r.SatisfiesClause ∷ [])
    ∷ (t "every" ∷ R r.InBindings ∷ R r.SatisfiesClause ∷ [])
    ∷ (t "if" ∷ R r.TestClause ∷ R r.ThenClause ∷ R r.ElseClause ∷ [])
    ∷ (R r.OrExpr ∷ [])
    ∷ []
-- 5, 6: the bindings of ForExpr and QuantifiedExpr
xpath r.InBindings = (t "$" ∷ R r.VarName ∷ R r.InClause ∷ R r.InBindingsTail ∷ []) ∷ []
xpath r.InBindingsTail =
    (t "," ∷ R r.InBindings ∷ [])
    ∷ nothing
    ∷ []
-- XPath 3.1, 3.10: the bindings of LetExpr
xpath r.LetBindings = (t "$" ∷ R r.VarName ∷ R r.AssignClause ∷ R r.LetBindingsTail ∷ []) ∷ []
xpath r.LetBindingsTail =
    (t "," ∷ R r.LetBindings ∷ [])
    ∷ nothing
    ∷ []
-- Each clause nests.
xpath r.InClause = (t "in" ∷ R r.ExprSingle ∷ close ∷ []) ∷ []
xpath r.AssignClause = (t ":=" ∷ R r.ExprSingle ∷ close ∷ []) ∷ []
xpath r.ReturnClause = (t "return" ∷ R r.ExprSingle ∷ close ∷ []) ∷ []
xpath r.SatisfiesClause = (t "satisfies" ∷ R r.ExprSingle ∷ close ∷ []) ∷ []
xpath r.TestClause = (t "(" ∷ R r.Expr ∷ close ∷ t ")" ∷ []) ∷ []
xpath r.ThenClause = (t "then" ∷ R r.ExprSingle ∷ close ∷ []) ∷ []
xpath r.ElseClause = (t "else" ∷ R r.ExprSingle ∷ close ∷ []) ∷ []
-- 8: OrExpr
xpath r.OrExpr = (R r.AndExpr ∷ R r.OrTail ∷ []) ∷ []
xpath r.OrTail =
    (t "or" ∷ R r.AndExpr ∷ R r.OrTail ∷ [])
    ∷ nothing
    ∷ []
-- 9: AndExpr
xpath r.AndExpr = (R r.ComparisonExpr ∷ R r.AndTail ∷ []) ∷ []
xpath r.AndTail =
    (t "and" ∷ R r.ComparisonExpr ∷ R r.AndTail ∷ [])
    ∷ nothing
    ∷ []
-- 10, 22: ComparisonExpr and GeneralComp, which do not follow each other
xpath r.ComparisonExpr = (R r.StringConcatExpr ∷ R r.ComparisonTail ∷ []) ∷ []
xpath r.ComparisonTail =
    (t "=" ∷ R r.StringConcatExpr ∷ [])
    ∷ (t "!=" ∷ R r.StringConcatExpr ∷ [])
    ∷ (t "<" ∷ R r.StringConcatExpr ∷ [])
    ∷ (t "<=" ∷ R r.StringConcatExpr ∷ [])
    ∷ (t ">" ∷ R r.StringConcatExpr ∷ [])
    ∷ (t ">=" ∷ R r.StringConcatExpr ∷ [])
    ∷ nothing
    ∷ []
-- XPath 3.1, 3.6: StringConcatExpr
xpath r.StringConcatExpr = (R r.RangeExpr ∷ R r.StringConcatTail ∷ []) ∷ []
xpath r.StringConcatTail =
    (t "||" ∷ R r.RangeExpr ∷ R r.StringConcatTail ∷ [])
    ∷ nothing
    ∷ []
-- 11: RangeExpr, which do not follow each other
xpath r.RangeExpr = (R r.AdditiveExpr ∷ R r.RangeTail ∷ []) ∷ []
xpath r.RangeTail =
    (t "to" ∷ R r.AdditiveExpr ∷ [])
    ∷ nothing
    ∷ []
-- 12: AdditiveExpr
xpath r.AdditiveExpr = (R r.MultiplicativeExpr ∷ R r.AdditiveTail ∷ []) ∷ []
xpath r.AdditiveTail =
    (t "+" ∷ R r.MultiplicativeExpr ∷ R r.AdditiveTail ∷ [])
    ∷ (t "-" ∷ R r.MultiplicativeExpr ∷ R r.AdditiveTail ∷ [])
    ∷ nothing
    ∷ []
-- 13: MultiplicativeExpr
xpath r.MultiplicativeExpr = (R r.UnionExpr ∷ R r.MultiplicativeTail ∷ []) ∷ []
xpath r.MultiplicativeTail =
    (t "*" ∷ R r.UnionExpr ∷ R r.MultiplicativeTail ∷ [])
    ∷ (t "idiv" ∷ R r.UnionExpr ∷ R r.MultiplicativeTail ∷ [])
    ∷ (t "mod" ∷ R r.UnionExpr ∷ R r.MultiplicativeTail ∷ [])
    ∷ nothing
    ∷ []
-- 14: UnionExpr
xpath r.UnionExpr = (R r.IntersectExceptExpr ∷ R r.UnionTail ∷ []) ∷ []
xpath r.UnionTail =
    (t "union" ∷ R r.IntersectExceptExpr ∷ R r.UnionTail ∷ [])
    ∷ (t "|" ∷ R r.IntersectExceptExpr ∷ R r.UnionTail ∷ [])
    ∷ nothing
    ∷ []
-- 15: IntersectExceptExpr
xpath r.IntersectExceptExpr = (R r.UnaryExpr ∷ R r.IntersectExceptTail ∷ []) ∷ []
xpath r.IntersectExceptTail =
    (t "intersect" ∷ R r.UnaryExpr ∷ R r.IntersectExceptTail ∷ [])
    ∷ (t "except" ∷ R r.UnaryExpr ∷ R r.IntersectExceptTail ∷ [])
    ∷ nothing
    ∷ []
-- 20: UnaryExpr, whose operands are those of XPath 3.1
xpath r.UnaryExpr =
    (t "-" ∷ R r.UnaryExpr ∷ close ∷ [])
    ∷ (t "+" ∷ R r.UnaryExpr ∷ close ∷ [])
    ∷ (R r.SimpleMapExpr ∷ [])
    ∷ []
-- XPath 3.1, 3.15: SimpleMapExpr
xpath r.SimpleMapExpr = (R r.Operand ∷ R r.SimpleMapTail ∷ []) ∷ []
xpath r.SimpleMapTail =
    (t "!" ∷ R r.Operand ∷ R r.SimpleMapTail ∷ [])
    ∷ nothing
    ∷ []
-- What is left out where an operator can stand: 23 and 24, ValueComp and NodeComp, and `div` of 13; 16 to 19,
-- InstanceofExpr, TreatExpr, CastableExpr and CastExpr; XPath 3.1, 3.16 and 3.11.3, `=>` and look-ups; and 43, a number that is no integer
xpath r.Operand = (R r.PathExpr ∷ R r.LeftOutOperator ∷ []) ∷ []
xpath r.LeftOutOperator =
    (left_out "eq" ∷ [])
    ∷ (left_out "ne" ∷ [])
    ∷ (left_out "lt" ∷ [])
    ∷ (left_out "le" ∷ [])
    ∷ (left_out "gt" ∷ [])
    ∷ (left_out "ge" ∷ [])
    ∷ (left_out "is" ∷ [])
    ∷ (left_out "<<" ∷ [])
    ∷ (left_out ">>" ∷ [])
    ∷ (left_out "div" ∷ [])
    ∷ (left_out "instance" ∷ [])
    ∷ (left_out "treat" ∷ [])
    ∷ (left_out "castable" ∷ [])
    ∷ (left_out "cast" ∷ [])
    ∷ (left_out "=>" ∷ [])
    ∷ (left_out "?" ∷ [])
    ∷ (left_out_decimal ∷ [])
    ∷ (left_out_double ∷ [])
    ∷ nothing
    ∷ []
-- 25: PathExpr
xpath r.PathExpr =
    (lone_slash ∷ [])
    ∷ (t "/" ∷ R r.RelativePathExpr ∷ [])
    ∷ (t "//" ∷ R r.RelativePathExpr ∷ [])
    ∷ (R r.RelativePathExpr ∷ [])
    ∷ []
-- 26: RelativePathExpr
xpath r.RelativePathExpr = (R r.StepExpr ∷ R r.RelativePathTail ∷ []) ∷ []
xpath r.RelativePathTail =
    (t "/" ∷ R r.StepExpr ∷ R r.RelativePathTail ∷ [])
    ∷ (t "//" ∷ R r.StepExpr ∷ R r.RelativePathTail ∷ [])
    ∷ nothing
    ∷ []
-- 27 to 34, 38, 47: StepExpr, AxisStep, FilterExpr, ContextItemExpr; and what is left out where a step can begin: 43, a number that is
-- no integer; XPath 3.1, 3.11, 3.1.7 and 3.11.3, maps, arrays, inline functions and look-ups
xpath r.StepExpr =
    (t "." ∷ R r.PredicateList ∷ [])
    ∷ (R r.PrimaryExpr ∷ R r.PredicateList ∷ [])
    ∷ (t ".." ∷ R r.PredicateList ∷ [])
    ∷ (t "@" ∷ R r.NodeTest ∷ R r.PredicateList ∷ [])
    ∷ (axis ∷ R r.AxisTail ∷ [])
    ∷ (t "*" ∷ R r.PredicateList ∷ [])
    ∷ (t "node" ∷ R r.KindTail ∷ R r.PredicateList ∷ [])
    ∷ (t "element" ∷ R r.KindTail ∷ R r.PredicateList ∷ [])
    ∷ (R r.PlainName ∷ R r.NameTail ∷ [])
    ∷ (left_out_decimal ∷ [])
    ∷ (left_out_double ∷ [])
    ∷ (left_out "map" ∷ [])
    ∷ (left_out "array" ∷ [])
    ∷ (left_out "[" ∷ [])
    ∷ (left_out "function" ∷ [])
    ∷ (left_out "?" ∷ [])
    ∷ []
xpath r.AxisTail =
    (t "::" ∷ R r.NodeTest ∷ R r.PredicateList ∷ [])
    ∷ (t "(" ∷ R r.Arguments ∷ close ∷ t ")" ∷ R r.PredicateList ∷ [])
    ∷ (R r.PredicateList ∷ [])
    ∷ []
xpath r.NameTail =
    (t "(" ∷ R r.Arguments ∷ close ∷ t ")" ∷ R r.PredicateList ∷ [])
    ∷ (R r.PredicateList ∷ [])
    ∷ []
-- 35 to 37, 54: NodeTest, NameTest, KindTest
xpath r.NodeTest =
    (R r.PlainName ∷ [])
    ∷ (axis ∷ [])
    ∷ (t "*" ∷ [])
    ∷ (t "node" ∷ R r.KindTail ∷ [])
    ∷ (t "element" ∷ R r.KindTail ∷ [])
    ∷ []
xpath r.KindTail =
    (t "(" ∷ close ∷ t ")" ∷ [])
    ∷ nothing
    ∷ []
-- 39, 40: PredicateList
xpath r.PredicateList =
    (t "[" ∷ R r.Expr ∷ close ∷ t "]" ∷ R r.PredicateList ∷ [])
    ∷ nothing
    ∷ []
-- 41 to 46: PrimaryExpr
xpath r.PrimaryExpr =
    (integer ∷ [])
    ∷ (string ∷ [])
    ∷ (t "$" ∷ R r.VarName ∷ [])
    ∷ (t "(" ∷ R r.Parenthesized ∷ close ∷ t ")" ∷ [])
    ∷ []
xpath r.Parenthesized =
    (R r.Expr ∷ [])
    ∷ nothing
    ∷ []
-- 48: FunctionCall
xpath r.Arguments =
    (R r.ExprSingle ∷ R r.ArgumentsTail ∷ [])
    ∷ nothing
    ∷ []
xpath r.ArgumentsTail =
    (t "," ∷ R r.ExprSingle ∷ R r.ArgumentsTail ∷ [])
    ∷ nothing
    ∷ []
-- 45: VarName
xpath r.VarName =
    (R r.PlainName ∷ [])
    ∷ (axis ∷ [])
    ∷ (t "node" ∷ [])
    ∷ (t "element" ∷ [])
    ∷ []
-- A.2: a word is a name where the grammar wants one
xpath r.PlainName =
    (name ∷ [])
    ∷ (t "and" ∷ [])
    ∷ (t "div" ∷ [])
    ∷ (t "else" ∷ [])
    ∷ (t "eq" ∷ [])
    ∷ (t "except" ∷ [])
    ∷ (t "ge" ∷ [])
    ∷ (t "gt" ∷ [])
    ∷ (t "idiv" ∷ [])
    ∷ (t "in" ∷ [])
    ∷ (t "intersect" ∷ [])
    ∷ (t "is" ∷ [])
    ∷ (t "le" ∷ [])
    ∷ (t "lt" ∷ [])
    ∷ (t "mod" ∷ [])
    ∷ (t "ne" ∷ [])
    ∷ (t "or" ∷ [])
    ∷ (t "return" ∷ [])
    ∷ (t "satisfies" ∷ [])
    ∷ (t "then" ∷ [])
    ∷ (t "to" ∷ [])
    ∷ (t "union" ∷ [])
    ∷ []

-- the rules, by their numbers from 0
unfoldable pub rules : List Rule
rules =
    r.Expr ∷ r.ExprTail ∷ r.ExprSingle ∷ r.InBindings ∷ r.InBindingsTail ∷ r.LetBindings ∷ r.LetBindingsTail ∷ r.InClause ∷
    r.AssignClause ∷ r.ReturnClause ∷ r.SatisfiesClause ∷ r.TestClause ∷ r.ThenClause ∷ r.ElseClause ∷ r.OrExpr ∷ r.OrTail ∷
    r.AndExpr ∷ r.AndTail ∷ r.ComparisonExpr ∷ r.ComparisonTail ∷ r.StringConcatExpr ∷ r.StringConcatTail ∷ r.RangeExpr ∷
    r.RangeTail ∷ r.AdditiveExpr ∷ r.AdditiveTail ∷ r.MultiplicativeExpr ∷ r.MultiplicativeTail ∷ r.UnionExpr ∷ r.UnionTail ∷
    r.IntersectExceptExpr ∷ r.IntersectExceptTail ∷ r.UnaryExpr ∷ r.SimpleMapExpr ∷ r.SimpleMapTail ∷ r.Operand ∷
    r.LeftOutOperator ∷ r.PathExpr ∷ r.RelativePathExpr ∷ r.RelativePathTail ∷ r.StepExpr ∷ r.AxisTail ∷ r.NameTail ∷
    r.NodeTest ∷ r.KindTail ∷ r.PredicateList ∷ r.PrimaryExpr ∷ r.Parenthesized ∷ r.Arguments ∷ r.ArgumentsTail ∷ r.VarName ∷
    r.PlainName ∷ []

abbrev pub line : Rule → List Symbol → Line
line rule symbols = record { rule = rule_number rule; symbols = symbols }

abbrev pub lines_of : List Rule → Grammar
lines_of [] = []
lines_of (rule ∷ more) = map (line rule) (xpath rule) ++ lines_of more

-- the productions, by their numbers from 0: those of the first rule, then those of the second, and so on
unfoldable pub xpath_grammar : Grammar
xpath_grammar = lines_of rules

-- the greatest nesting that a place may have
abbrev pub greatest_nesting : ℕ
greatest_nesting = 200
