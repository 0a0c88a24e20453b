-- What is said of the value of each rule: its expressions fit where what they name has no fault.
use Rattle.std.specs.Prelude.{⊤, List, [], ◌∷◌, map, Option, Some, None}
use Rattle.pj_xexpressions.specs.Trees.{Tree}
use Rattle.pj_xgrammar.specs.declared.rule.Rule.{Rule}
use Rattle.pj_xgrammar.specs.declared.rule.Rule.TheVariants as r
use Rattle.pj_xreadings.specs.Operands.{Operand, Binding, Arguments, Closed, Open, Next, Behind, Test, Called, Predicates, trees_of, names_of, operations, names_behind}
use Rattle.pj_xmeaning.specs.RuleMeanings.{Value}
use Rattle.pj_xparse.proofs.Fit.{IsFit, AreFit}

-- an expression
abbrev pub Fits : Operand → Type 0
Fits a = IsFit a.tree a.written a.names

-- expressions in a row
abbrev pub AllFit : List Operand → Type 0
AllFit operands = AreFit (trees_of operands) (names_of operands)

-- expressions behind operators of their own
abbrev pub FitBehind : {Operator : Type 0} → List (Operator × Operand) → Type 0
FitBehind {Operator} operands = AreFit (map (λ (next : Operator × Tree). next.1) (operations operands)) (names_behind operands)

-- an expression behind an operator, if there is one
abbrev pub FitsBehind : {Operator : Type 0} → Option (Operator × Operand) → Type 0
FitsBehind None = ⊤
FitsBehind (Some next) = Fits next.1

-- an expression, if there is one
abbrev pub FitsIfAny : Option Operand → Type 0
FitsIfAny None = ⊤
FitsIfAny (Some a) = Fits a

-- steps of a path, of which there is one or more
abbrev pub StepsFit : List Operand → Type 0
StepsFit [] = ⊥
StepsFit (first ∷ more) = Fits first × AllFit more

-- what variables are bound to
abbrev pub AllBoundFit : List Binding → Type 0
AllBoundFit [] = ⊤
AllBoundFit (binding ∷ more) = Fits binding.bound × AllBoundFit more

-- what variables are bound to, of which there is one or more
abbrev pub SomeBoundFit : List Binding → Type 0
SomeBoundFit [] = ⊥
SomeBoundFit (binding ∷ more) = Fits binding.bound × AllBoundFit more

-- arguments in a list that is closed
abbrev pub ArgumentsFit : Arguments → Type 0
ArgumentsFit Closed = ⊤
ArgumentsFit Open = ⊥
ArgumentsFit (Next from a more) = Fits a × ArgumentsFit more

-- what stands behind a name in a step
abbrev pub BehindFits : Behind → Type 0
BehindFits (Test test predicates) = AllFit predicates
BehindFits (Called arguments predicates) = ArgumentsFit arguments × AllFit predicates
BehindFits (Predicates predicates) = AllFit predicates

-- the value of a rule; of words and tests nothing is said
abbrev pub ValueFits : (rule : Rule) → Value rule → Type 0
ValueFits r.ExprTail v = AllFit v
ValueFits r.InBindings v = SomeBoundFit v
ValueFits r.InBindingsTail v = AllBoundFit v
ValueFits r.LetBindings v = SomeBoundFit v
ValueFits r.LetBindingsTail v = AllBoundFit v
ValueFits r.OrTail v = AllFit v
ValueFits r.AndTail v = AllFit v
ValueFits r.ComparisonTail v = FitsBehind v
ValueFits r.StringConcatTail v = AllFit v
ValueFits r.RangeTail v = FitsIfAny v
ValueFits r.AdditiveTail v = FitBehind v
ValueFits r.MultiplicativeTail v = FitBehind v
ValueFits r.UnionTail v = AllFit v
ValueFits r.IntersectExceptTail v = FitBehind v
ValueFits r.SimpleMapTail v = AllFit v
ValueFits r.LeftOutOperator v = ⊤
ValueFits r.RelativePathExpr v = StepsFit v
ValueFits r.RelativePathTail v = AllFit v
ValueFits r.AxisTail v = BehindFits v
ValueFits r.NameTail v = BehindFits v
ValueFits r.NodeTest v = ⊤
ValueFits r.KindTail v = ⊤
ValueFits r.PredicateList v = AllFit v
ValueFits r.Arguments v = ArgumentsFit v
ValueFits r.ArgumentsTail v = ArgumentsFit v
ValueFits r.VarName v = ⊤
ValueFits r.PlainName v = ⊤
ValueFits _ v = Fits v
