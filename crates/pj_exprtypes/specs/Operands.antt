-- The operands of expressions: the nodes whose types the type of a node is made of, in the order in which they are typed (JLS 15.7). Those whose types change nothing are left out. The arguments of a
-- call are typed behind its operands (`Calls`).
use Rattle.std.specs.Prelude.{Option, None, Some, List, [], ◌∷◌}
use Rattle.pj_tree.specs.Tree.{Tree, children_of, kind_of}
use Rattle.pj_tree.specs.Children.{second_child}
use Rattle.pj_tree.specs.declared.kind.Kind.{Kind}
use Rattle.pj_tree.specs.declared.kind.Kind.TheVariants as k
use Rattle.pj_tree.specs.declared.node.Node.{Node}
use Rattle.pj_operators.specs.declared.operators.Infix.{Infix}
use Rattle.pj_operators.specs.declared.operators.Infix.TheVariants as i
use Rattle.pj_operators.specs.declared.operators.Unary.{Unary}
use Rattle.pj_operators.specs.declared.operators.Unary.TheVariants as u
use Rattle.pj_operators.specs.Operators.{infix_of, unary_of}
use Rattle.pj_leaf_types.specs.Variables.{initializer_of, statement_of}
use Rattle.pj_calls.specs.Nodes.{before_dot}

-- ---- some of a list

abbrev pub first_only : List Node → List Node
first_only [] = []
first_only (n ∷ ns) = n ∷ []

abbrev pub but_first : List Node → List Node
but_first [] = []
but_first (n ∷ ns) = ns

abbrev pub if_some : Option Node → List Node
if_some None = []
if_some (Some n) = n ∷ []

-- ---- of expressions

-- of a comparison none, of a shift the left one (JLS 15.19 to 15.21), of the others both
abbrev pub infix_operands : Option Infix → List Node → List Node
infix_operands None children = []
infix_operands (Some i.Test) children = []
infix_operands (Some i.Shift) children = first_only children
infix_operands (Some i.Sum) children = children
infix_operands (Some i.Bitwise) children = children
infix_operands (Some i.Arithmetic) children = children

-- of `!` none (JLS 15.15.6)
abbrev pub unary_operands : Option Unary → List Node → List Node
unary_operands None children = []
unary_operands (Some u.Not) children = []
unary_operands (Some u.Step) children = first_only children
unary_operands (Some u.Sign) children = first_only children

module _ (t : Tree) where
  -- Of a conditional expression the condition is left out, of an assignment what is assigned, of an array access the index. That of a method call is its receiver, where it has one.
  abbrev pub operands_by : Node → Option Kind → List Node
  operands_by n (Some k.InfixExpression) = infix_operands (infix_of t n) (children_of t n)
  operands_by n (Some k.UnaryExpression) = unary_operands (unary_of t n) (children_of t n)
  operands_by n (Some k.ConditionalExpression) = but_first (children_of t n)
  operands_by n (Some k.FieldAccess) = first_only (children_of t n)
  operands_by n (Some k.AssignmentExpression) = first_only (children_of t n)
  operands_by n (Some k.ArrayAccess) = first_only (children_of t n)
  operands_by n (Some k.MethodCall) = if_some (before_dot t n)
  operands_by n other = []

  abbrev pub operands : Node → List Node
  operands n = operands_by n (kind_of t n)

  -- ---- of a variable that is declared by `var`

  -- what its enhanced `for` goes through (JLS 14.14.2), and else its initializer (JLS 14.4.1)
  abbrev pub source_by : Node → Option Node → Option Node
  source_by id None = initializer_of t id
  source_by id (Some statement) = second_child t statement

  abbrev pub source_of : Node → Option Node
  source_of id = source_by id (statement_of t id)

  abbrev pub var_operands : Node → List Node
  var_operands id = if_some (source_of id)
