-- Expressions as contracts compare them. An `Expr` keeps its parts in boxes and vectors, and two of these differ by their places in
-- memory; of these no contract speaks.
use Rattle.std.specs.Prelude.{ℕ, ℤ, List, [], ◌∷◌, ◌++◌, map, Option}
use Rattle.pj_xexpressions.specs.declared.axis.Axis.{Axis}
use Rattle.pj_xexpressions.specs.declared.function.Function.{Function}
use Rattle.pj_xexpressions.specs.declared.operator.Compare.{Compare}
use Rattle.pj_xexpressions.specs.declared.pmd_function.PmdFunction.{PmdFunction}
use Rattle.pj_xexpressions.specs.declared.operator.Additive.{Additive}
use Rattle.pj_xexpressions.specs.declared.operator.Multiplicative.{Multiplicative}
use Rattle.pj_xexpressions.specs.declared.expr.NodeTest.{NodeTest}
use Rattle.pj_xexpressions.specs.declared.operator.Quantifier.{Quantifier}
use Rattle.pj_xexpressions.specs.declared.operator.SetOperator.{SetOperator}
use Rattle.pj_xexpressions.specs.declared.operator.Sign.{Sign}
use Rattle.pj_xexpressions.specs.declared.expr.Expr.{Expr}
use Rattle.pj_xexpressions.specs.declared.expr.Expr.TheOpen.{Expr-F}
use Rattle.pj_xexpressions.specs.declared.expr.Expr.TheFolds.{fold-Expr}

-- What an expression is, without its parts. A `for`, a `let`, a `some` and an `every` have the names of their variables, and the
-- chains that mix operators have these in their order.
pub data Construct : Type 0 where
  Comma : Construct
  For : List (List ℕ) → Construct
  Let : List (List ℕ) → Construct
  Quantified : Quantifier → List (List ℕ) → Construct
  If : Construct
  Or : Construct
  And : Construct
  Comparison : Compare → Construct
  Concatenation : Construct
  Range : Construct
  Additive' : List Additive → Construct
  Multiplicative' : List Multiplicative → Construct
  Union : Construct
  IntersectExcept : List SetOperator → Construct
  Unary : Sign → Construct
  SimpleMap : Construct
  Path : Construct
  Root : Construct
  Step : Axis → NodeTest → Construct
  AttributeStep : NodeTest → Construct
  Filter : Construct
  Integer : Option ℤ → Construct
  String : List ℕ → Construct
  Variable : List ℕ → Construct
  ContextItem : Construct
  Call : Function → Construct
  PmdCall : PmdFunction → Construct

mutual
  -- a construct with its parts, in the order of the text
  pub data Tree : Type 0 where
    Node : Construct → Trees → Tree

  pub data Trees : Type 0 where
    NoMore : Trees
    More : Tree → Trees → Trees

abbrev pub trees : List Tree → Trees
trees [] = NoMore
trees (first ∷ rest) = More first (trees rest)

abbrev pub node : Construct → List Tree → Tree
node construct parts = Node construct (trees parts)

-- what has no parts
abbrev pub alone : Construct → Tree
alone construct = node construct []

-- variables with their expressions, and what follows them
abbrev pub binder : (List (List ℕ) → Construct) → List (List ℕ × Tree) → Tree → Tree
binder construct bindings body = node (construct (map (λ binding. binding.0) bindings)) (map (λ binding. binding.1) bindings ++ body ∷ [])

-- a first operand, and further ones behind operators of their own
abbrev pub operated : {Operator : Type 0} → (List Operator → Construct) → Tree → List (Operator × Tree) → Tree
operated construct first rest = node (construct (map (λ next. next.0) rest)) (first ∷ map (λ next. next.1) rest)

abbrev pub tree_step : Expr-F Tree → Tree
tree_step (Expr-F.Comma parts) = node Comma parts.items
tree_step (Expr-F.For bindings body) = binder For bindings.items body.value
tree_step (Expr-F.Let bindings body) = binder Let bindings.items body.value
tree_step (Expr-F.Quantified quantifier bindings test) = binder (Quantified quantifier) bindings.items test.value
tree_step (Expr-F.If test chosen other) = node If (test.value ∷ chosen.value ∷ other.value ∷ [])
tree_step (Expr-F.Or parts) = node Or parts.items
tree_step (Expr-F.And parts) = node And parts.items
tree_step (Expr-F.Comparison op left right) = node (Comparison op) (left.value ∷ right.value ∷ [])
tree_step (Expr-F.Concatenation parts) = node Concatenation parts.items
tree_step (Expr-F.Range from to) = node Range (from.value ∷ to.value ∷ [])
tree_step (Expr-F.Additive first rest) = operated Additive' first.value rest.items
tree_step (Expr-F.Multiplicative first rest) = operated Multiplicative' first.value rest.items
tree_step (Expr-F.Union parts) = node Union parts.items
tree_step (Expr-F.IntersectExcept first rest) = operated IntersectExcept first.value rest.items
tree_step (Expr-F.Unary sign part) = node (Unary sign) (part.value ∷ [])
tree_step (Expr-F.SimpleMap parts) = node SimpleMap parts.items
tree_step (Expr-F.Path steps) = node Path steps.items
tree_step Expr-F.Root = alone Root
tree_step (Expr-F.Step axis test predicates) = node (Step axis test) predicates.items
tree_step (Expr-F.AttributeStep test predicates) = node (AttributeStep test) predicates.items
tree_step (Expr-F.Filter primary predicates) = node Filter (primary.value ∷ predicates.items)
tree_step (Expr-F.Integer value) = alone (Integer value)
tree_step (Expr-F.String text) = alone (String text)
tree_step (Expr-F.Variable name) = alone (Variable name)
tree_step Expr-F.ContextItem = alone ContextItem
tree_step (Expr-F.Call function arguments) = node (Call function) arguments.items
tree_step (Expr-F.PmdCall function arguments) = node (PmdCall function) arguments.items

-- what an `Expr` is
unfoldable pub tree_of : Expr → Tree
tree_of = fold-Expr Tree tree_step
