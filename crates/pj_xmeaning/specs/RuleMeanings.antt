-- What the rules of the grammar say: of which type it is, and what a rule says before whose first token the tokens are cut off.
use Rattle.std.specs.Prelude.{ℕ, Bool, false, List, [], Option, None}
use Rattle.pj_xexpressions.specs.declared.operator.Compare.{Compare}
use Rattle.pj_xexpressions.specs.declared.operator.Additive.{Additive}
use Rattle.pj_xexpressions.specs.declared.operator.Multiplicative.{Multiplicative}
use Rattle.pj_xexpressions.specs.declared.operator.SetOperator.{SetOperator}
use Rattle.pj_xexpressions.specs.declared.expr.NodeTest.{NodeTest}
use Rattle.pj_xexpressions.specs.declared.expr.NodeTest.TheVariants.{AnyName}
use Rattle.pj_xgrammar.specs.declared.rule.Rule.{Rule}
use Rattle.pj_xgrammar.specs.declared.rule.Rule.TheVariants as r
use Rattle.pj_xreadings.specs.Operands.{Operand, Binding, Arguments, Open, Behind, Predicates, nothing}

-- the type of what a rule says
abbrev pub Value : Rule → Type 0
Value r.ExprTail = List Operand
Value r.InBindings = List Binding
Value r.InBindingsTail = List Binding
Value r.LetBindings = List Binding
Value r.LetBindingsTail = List Binding
Value r.OrTail = List Operand
Value r.AndTail = List Operand
Value r.ComparisonTail = Option (Compare × Operand)
Value r.StringConcatTail = List Operand
Value r.RangeTail = Option Operand
Value r.AdditiveTail = List (Additive × Operand)
Value r.MultiplicativeTail = List (Multiplicative × Operand)
Value r.UnionTail = List Operand
Value r.IntersectExceptTail = List (SetOperator × Operand)
Value r.SimpleMapTail = List Operand
Value r.LeftOutOperator = Unit {0}
Value r.RelativePathExpr = List Operand
Value r.RelativePathTail = List Operand
Value r.AxisTail = Behind
Value r.NameTail = Behind
Value r.NodeTest = NodeTest
Value r.KindTail = Bool
Value r.PredicateList = List Operand
Value r.Arguments = Arguments
Value r.ArgumentsTail = Arguments
Value r.VarName = List ℕ
Value r.PlainName = List ℕ
Value _ = Operand

-- What a rule says before whose first token the tokens are cut off. No fault is seen in it, since it names nothing; its tree stands for no
-- expression, and a variable without a name is seen by nothing.
abbrev pub absent : (rule : Rule) → Value rule
absent r.Expr = nothing
absent r.ExprTail = []
absent r.ExprSingle = nothing
absent r.InBindings = []
absent r.InBindingsTail = []
absent r.LetBindings = []
absent r.LetBindingsTail = []
absent r.InClause = nothing
absent r.AssignClause = nothing
absent r.ReturnClause = nothing
absent r.SatisfiesClause = nothing
absent r.TestClause = nothing
absent r.ThenClause = nothing
absent r.ElseClause = nothing
absent r.OrExpr = nothing
absent r.OrTail = []
absent r.AndExpr = nothing
absent r.AndTail = []
absent r.ComparisonExpr = nothing
absent r.ComparisonTail = None
absent r.StringConcatExpr = nothing
absent r.StringConcatTail = []
absent r.RangeExpr = nothing
absent r.RangeTail = None
absent r.AdditiveExpr = nothing
absent r.AdditiveTail = []
absent r.MultiplicativeExpr = nothing
absent r.MultiplicativeTail = []
absent r.UnionExpr = nothing
absent r.UnionTail = []
absent r.IntersectExceptExpr = nothing
absent r.IntersectExceptTail = []
absent r.UnaryExpr = nothing
absent r.SimpleMapExpr = nothing
absent r.SimpleMapTail = []
absent r.Operand = nothing
absent r.LeftOutOperator = tt
absent r.PathExpr = nothing
absent r.RelativePathExpr = []
absent r.RelativePathTail = []
absent r.StepExpr = nothing
absent r.AxisTail = Predicates []
absent r.NameTail = Predicates []
absent r.NodeTest = AnyName
absent r.KindTail = false
absent r.PredicateList = []
absent r.PrimaryExpr = nothing
absent r.Parenthesized = nothing
absent r.Arguments = Open
absent r.ArgumentsTail = Open
absent r.VarName = []
absent r.PlainName = []
