-- What the productions make, by name: for each rule of the grammar an action for each of its productions, in their order. What the actions
-- make of the values of rules is said in `Values`. The comments are the sections of XPath 2.0, A.1, as in the grammar.
use Rattle.std.specs.Prelude.{ℕ, List, [], ◌∷◌, ◌++◌, Option, Some, None, slice_get}
use Rattle.pj_xexpressions.specs.declared.operator.Compare.TheVariants as compare
use Rattle.pj_xexpressions.specs.declared.operator.Additive.TheVariants as sum
use Rattle.pj_xexpressions.specs.declared.operator.Multiplicative.TheVariants as product
use Rattle.pj_xexpressions.specs.declared.operator.SetOperator.TheVariants as set
use Rattle.pj_xexpressions.specs.declared.operator.Sign.TheVariants as sign
use Rattle.pj_xexpressions.specs.declared.operator.Quantifier.TheVariants as quantifier
use Rattle.pj_xgrammar.specs.declared.rule.Rule.{Rule}
use Rattle.pj_xgrammar.specs.declared.rule.Rule.TheVariants as r
use Rattle.pj_xgrammar.specs.XPath.{rules}
use Rattle.pj_xmeaning.specs.declared.action.Action.{Action}
use Rattle.pj_xmeaning.specs.declared.action.Action.TheVariants.{Leaf, Change, Single, Rest, Operation, Binder, Step, If, Binding}
use Rattle.pj_xmeaning.specs.declared.action.Leaf.TheVariants as leaf
use Rattle.pj_xreadings.specs.declared.step.Kind.TheVariants as kind
use Rattle.pj_xmeaning.specs.declared.action.Change.TheVariants as change
use Rattle.pj_xmeaning.specs.declared.action.Single.TheVariants as single
use Rattle.pj_xmeaning.specs.declared.action.Rest.TheVariants as rest
use Rattle.pj_xreadings.specs.declared.operation.Chain.TheVariants as chain
use Rattle.pj_xmeaning.specs.declared.action.Operation.TheVariants as operation
use Rattle.pj_xreadings.specs.declared.clause.Binder.TheVariants as binder
use Rattle.pj_xmeaning.specs.declared.action.Step.TheVariants as step

-- what is left out, of which nothing is made
abbrev pub left_out : Action
left_out = Leaf leaf.LeftOut

-- the token's characters
abbrev pub word : Action
word = Leaf leaf.Word

-- the expression of the one rule
abbrev pub same : Action
same = Single single.Same

-- an expression before others, and their end
abbrev pub further : Action
further = Rest rest.Further

abbrev pub no_more : Action
no_more = Leaf leaf.NoOperands

unfoldable pub actions_of : Rule → List Action
-- 2
actions_of r.Expr = Operation (operation.Chain chain.Comma) ∷ []
actions_of r.ExprTail = further ∷ no_more ∷ []
-- 3 to 7; XPath 3.1, 3.10
actions_of r.ExprSingle =
    Binder binder.For
    ∷ Binder binder.Let
    ∷ Binder (binder.Quantified quantifier.Some)
    ∷ Binder (binder.Quantified quantifier.Every)
    ∷ If
    ∷ same
    ∷ []
-- 5, 6
actions_of r.InBindings = Binding ∷ []
actions_of r.InBindingsTail = Change change.Bindings ∷ Leaf leaf.NoBindings ∷ []
-- XPath 3.1, 3.10
actions_of r.LetBindings = Binding ∷ []
actions_of r.LetBindingsTail = Change change.Bindings ∷ Leaf leaf.NoBindings ∷ []
actions_of r.InClause = same ∷ []
actions_of r.AssignClause = same ∷ []
actions_of r.ReturnClause = same ∷ []
actions_of r.SatisfiesClause = same ∷ []
actions_of r.TestClause = same ∷ []
actions_of r.ThenClause = same ∷ []
actions_of r.ElseClause = same ∷ []
-- 8
actions_of r.OrExpr = Operation (operation.Chain chain.Or) ∷ []
actions_of r.OrTail = further ∷ no_more ∷ []
-- 9
actions_of r.AndExpr = Operation (operation.Chain chain.And) ∷ []
actions_of r.AndTail = further ∷ no_more ∷ []
-- 10, 22
actions_of r.ComparisonExpr = Operation operation.Comparison ∷ []
actions_of r.ComparisonTail =
    Change (change.Compared compare.Equal)
    ∷ Change (change.Compared compare.NotEqual)
    ∷ Change (change.Compared compare.Less)
    ∷ Change (change.Compared compare.LessOrEqual)
    ∷ Change (change.Compared compare.Greater)
    ∷ Change (change.Compared compare.GreaterOrEqual)
    ∷ Leaf leaf.NoComparison
    ∷ []
-- XPath 3.1, 3.6
actions_of r.StringConcatExpr = Operation (operation.Chain chain.Concatenation) ∷ []
actions_of r.StringConcatTail = further ∷ no_more ∷ []
-- 11
actions_of r.RangeExpr = Operation operation.Range ∷ []
actions_of r.RangeTail = Change change.UpTo ∷ Leaf leaf.NoRange ∷ []
-- 12
actions_of r.AdditiveExpr = Operation operation.Sum ∷ []
actions_of r.AdditiveTail =
    Rest (rest.FurtherSum sum.Plus)
    ∷ Rest (rest.FurtherSum sum.Minus)
    ∷ Leaf leaf.NoSums
    ∷ []
-- 13
actions_of r.MultiplicativeExpr = Operation operation.Product ∷ []
actions_of r.MultiplicativeTail =
    Rest (rest.FurtherProduct product.Times)
    ∷ Rest (rest.FurtherProduct product.IntegerDivide)
    ∷ Rest (rest.FurtherProduct product.Modulo)
    ∷ Leaf leaf.NoProducts
    ∷ []
-- 14
actions_of r.UnionExpr = Operation (operation.Chain chain.Union) ∷ []
actions_of r.UnionTail = further ∷ further ∷ no_more ∷ []
-- 15
actions_of r.IntersectExceptExpr = Operation operation.Sets ∷ []
actions_of r.IntersectExceptTail =
    Rest (rest.FurtherSet set.Intersect)
    ∷ Rest (rest.FurtherSet set.Except)
    ∷ Leaf leaf.NoSets
    ∷ []
-- 20
actions_of r.UnaryExpr =
    Single (single.Signed sign.Minus)
    ∷ Single (single.Signed sign.Plus)
    ∷ same
    ∷ []
-- XPath 3.1, 3.15
actions_of r.SimpleMapExpr = Operation (operation.Chain chain.SimpleMap) ∷ []
actions_of r.SimpleMapTail = further ∷ no_more ∷ []
-- behind an operand nothing stands that is left out
actions_of r.Operand = Operation operation.Operand ∷ []
actions_of r.LeftOutOperator =
    left_out ∷ left_out ∷ left_out ∷ left_out ∷ left_out ∷ left_out ∷ left_out ∷ left_out ∷ left_out ∷ left_out
    ∷ left_out ∷ left_out ∷ left_out ∷ left_out ∷ left_out ∷ left_out ∷ left_out ∷ left_out ∷ left_out
    ∷ []
-- 25
actions_of r.PathExpr =
    Leaf leaf.Root
    ∷ Single single.RootedPath
    ∷ Single single.RootedDescendants
    ∷ Single single.RelativePath
    ∷ []
-- 26
actions_of r.RelativePathExpr = further ∷ []
actions_of r.RelativePathTail =
    further
    ∷ Rest rest.FurtherDescendants
    ∷ no_more
    ∷ []
-- 27 to 34, 38, 47
actions_of r.StepExpr =
    Single single.ContextItem
    ∷ Step step.Primary
    ∷ Single single.ParentStep
    ∷ Step step.Attribute
    ∷ Single single.AxisStep
    ∷ Single single.AnyNameStep
    ∷ Step (step.Kind kind.Node)
    ∷ Step (step.Kind kind.Element)
    ∷ Step step.Name
    ∷ left_out ∷ left_out ∷ left_out ∷ left_out ∷ left_out ∷ left_out ∷ left_out
    ∷ []
actions_of r.AxisTail =
    Rest rest.AxisTest
    ∷ Rest rest.Called
    ∷ Change change.Predicates
    ∷ []
actions_of r.NameTail =
    Rest rest.Called
    ∷ Change change.Predicates
    ∷ []
-- 35 to 37, 54
actions_of r.NodeTest =
    Change change.NameTest
    ∷ Leaf leaf.NameTest
    ∷ Leaf leaf.AnyNameTest
    ∷ Change (change.KindTest kind.Node)
    ∷ Change (change.KindTest kind.Element)
    ∷ []
actions_of r.KindTail =
    Leaf leaf.Parentheses
    ∷ Leaf leaf.NoParentheses
    ∷ []
-- 39, 40
actions_of r.PredicateList = further ∷ no_more ∷ []
-- 41 to 46
actions_of r.PrimaryExpr =
    Leaf leaf.Integer
    ∷ Leaf leaf.String
    ∷ Single single.Variable
    ∷ Single single.Parenthesized
    ∷ []
actions_of r.Parenthesized =
    same
    ∷ Leaf leaf.EmptySequence
    ∷ []
-- 48
actions_of r.Arguments = Rest rest.FirstArgument ∷ Leaf leaf.NoArguments ∷ []
actions_of r.ArgumentsTail = Rest rest.FurtherArgument ∷ Leaf leaf.NoArguments ∷ []
-- 45
actions_of r.VarName = Change change.Word ∷ word ∷ word ∷ word ∷ []
-- A.2
actions_of r.PlainName =
    word ∷ word ∷ word ∷ word ∷ word ∷ word ∷ word ∷ word ∷ word ∷ word ∷ word
    ∷ word ∷ word ∷ word ∷ word ∷ word ∷ word ∷ word ∷ word ∷ word ∷ word ∷ word
    ∷ []

abbrev pub actions_by : List Rule → List Action
actions_by [] = []
actions_by (rule ∷ more) = actions_of rule ++ actions_by more

-- the actions of the productions, by their numbers
unfoldable pub actions : List Action
actions = actions_by rules

abbrev pub action_in : Option Action → Action
action_in None = left_out
action_in (Some action) = action

-- that of a production, by its number
unfoldable pub action_of : ℕ → Action
action_of production = action_in (slice_get actions production)
