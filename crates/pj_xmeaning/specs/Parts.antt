-- The values that the code makes of rules, which are those of the relation (`RuleMeanings`).
use Rattle.std.specs.Prelude.{ℕ, Bool, false, List, [], Option, None}
use Rattle.pj_xexpressions.specs.declared.operator.Compare.{Compare}
use Rattle.pj_xexpressions.specs.declared.operator.Additive.{Additive}
use Rattle.pj_xexpressions.specs.declared.operator.Multiplicative.{Multiplicative}
use Rattle.pj_xexpressions.specs.declared.operator.SetOperator.{SetOperator}
use Rattle.pj_xexpressions.specs.declared.expr.NodeTest.{NodeTest}
use Rattle.pj_xexpressions.specs.declared.expr.NodeTest.TheVariants.{AnyName}
use Rattle.pj_xgrammar.specs.declared.rule.Rule.{Rule}
use Rattle.pj_xgrammar.specs.declared.rule.Rule.TheVariants as r
use Rattle.pj_xreadings.specs.Operands.{Operand, Binding, Arguments, Open, Behind, Predicates, nothing}
use Rattle.pj_xmeaning.specs.RuleMeanings.{Value}

-- The value of a rule: what its tokens say.
pub data RuleValue : Type 0 where
  -- none: the tokens are cut off before the rule
  Missing : RuleValue
  -- none: what could be left out is not there
  Nothing : RuleValue
  -- an expression
  One : Operand → RuleValue
  -- expressions in a row: operands, steps or predicates
  Many : List Operand → RuleValue
  -- variables with their expressions
  Bound : List Binding → RuleValue
  -- the second operand of a comparison with the operator before it, if there is one
  Compared : Option (Compare × Operand) → RuleValue
  -- the operand up to which another one ranges, if there is one
  UpTo : Option Operand → RuleValue
  -- operands of a sum, of a product, and of `intersect` and `except`, each with the operator before it
  Sums : List (Additive × Operand) → RuleValue
  Products : List (Multiplicative × Operand) → RuleValue
  Sets : List (SetOperator × Operand) → RuleValue
  -- arguments of a call
  Given : Arguments → RuleValue
  -- a node test
  Tested : NodeTest → RuleValue
  -- whether parentheses of a kind test are there
  Parentheses : Bool → RuleValue
  -- a name
  Word : List ℕ → RuleValue
  -- what stands behind a name
  Tail : Behind → RuleValue

-- ---- what a value holds; where none of this kind is there, what a rule says that is cut off (`absent`)

abbrev pub operand : RuleValue → Operand
operand (One a) = a
operand _ = nothing

abbrev pub operands : RuleValue → List Operand
operands (Many list) = list
operands _ = []

abbrev pub bindings : RuleValue → List Binding
bindings (Bound list) = list
bindings _ = []

abbrev pub comparison : RuleValue → Option (Compare × Operand)
comparison (Compared second) = second
comparison _ = None

abbrev pub range : RuleValue → Option Operand
range (UpTo last) = last
range _ = None

abbrev pub sums : RuleValue → List (Additive × Operand)
sums (Sums list) = list
sums _ = []

abbrev pub products : RuleValue → List (Multiplicative × Operand)
products (Products list) = list
products _ = []

abbrev pub sets : RuleValue → List (SetOperator × Operand)
sets (Sets list) = list
sets _ = []

abbrev pub arguments : RuleValue → Arguments
arguments (Given list) = list
arguments _ = Open

abbrev pub test : RuleValue → NodeTest
test (Tested t) = t
test _ = AnyName

abbrev pub parentheses : RuleValue → Bool
parentheses (Parentheses there) = there
parentheses _ = false

abbrev pub word : RuleValue → List ℕ
word (Word name) = name
word _ = []

-- what stands behind a name
abbrev pub tail : RuleValue → Behind
tail (Tail behind) = behind
tail _ = Predicates []

-- ---- the value for a rule

abbrev pub held : (rule : Rule) → RuleValue → Value rule
held r.Expr v = operand v
held r.ExprTail v = operands v
held r.ExprSingle v = operand v
held r.InBindings v = bindings v
held r.InBindingsTail v = bindings v
held r.LetBindings v = bindings v
held r.LetBindingsTail v = bindings v
held r.InClause v = operand v
held r.AssignClause v = operand v
held r.ReturnClause v = operand v
held r.SatisfiesClause v = operand v
held r.TestClause v = operand v
held r.ThenClause v = operand v
held r.ElseClause v = operand v
held r.OrExpr v = operand v
held r.OrTail v = operands v
held r.AndExpr v = operand v
held r.AndTail v = operands v
held r.ComparisonExpr v = operand v
held r.ComparisonTail v = comparison v
held r.StringConcatExpr v = operand v
held r.StringConcatTail v = operands v
held r.RangeExpr v = operand v
held r.RangeTail v = range v
held r.AdditiveExpr v = operand v
held r.AdditiveTail v = sums v
held r.MultiplicativeExpr v = operand v
held r.MultiplicativeTail v = products v
held r.UnionExpr v = operand v
held r.UnionTail v = operands v
held r.IntersectExceptExpr v = operand v
held r.IntersectExceptTail v = sets v
held r.UnaryExpr v = operand v
held r.SimpleMapExpr v = operand v
held r.SimpleMapTail v = operands v
held r.Operand v = operand v
held r.LeftOutOperator v = tt
held r.PathExpr v = operand v
held r.RelativePathExpr v = operands v
held r.RelativePathTail v = operands v
held r.StepExpr v = operand v
held r.AxisTail v = tail v
held r.NameTail v = tail v
held r.NodeTest v = test v
held r.KindTail v = parentheses v
held r.PredicateList v = operands v
held r.PrimaryExpr v = operand v
held r.Parenthesized v = operand v
held r.Arguments v = arguments v
held r.ArgumentsTail v = arguments v
held r.VarName v = word v
held r.PlainName v = word v
