-- What laws say of the type of an expression: how it is made of the types of its operands, where these are whole types. Each is of one kind of expressions.
use Rattle.std.specs.Prelude.{◌≡◌, Some, List, [], ◌∷◌}
use Rattle.pj_tree.specs.Tree.{Tree, children_of, kind_of}
use Rattle.pj_tree.specs.declared.kind.Kind.{Kind}
use Rattle.pj_tree.specs.declared.kind.Kind.TheVariants as k
use Rattle.pj_tree.specs.declared.node.Node.{Node}
use Rattle.pj_names.specs.JavaType.{JavaType}
use Rattle.pj_names.specs.Asking.{Asking, Return, bind}
use Rattle.pj_operators.specs.declared.operators.Infix.{Infix}
use Rattle.pj_operators.specs.declared.operators.Unary.{Unary}
use Rattle.pj_operators.specs.Operators.{infix_of, infix_type, unary_of}
use Rattle.pj_exprtypes.specs.TypeOf.{type_of}

module _ (t : Tree) where
  -- by the type of the first child alone
  abbrev pub IsOfFirst : Kind → (Node → JavaType → Asking JavaType) → Type 0
  IsOfFirst kind make = (n first : Node) (rest : List Node) → kind_of t n ≡ Some kind → children_of t n ≡ first ∷ rest → type_of t n ≡ bind (type_of t first) (λ ty. make n ty)

  -- by those of the second and the third child of three
  abbrev pub IsOfSecondAndThird : Kind → (JavaType → JavaType → Asking JavaType) → Type 0
  IsOfSecondAndThird kind make = (n first second third : Node) → kind_of t n ≡ Some kind → children_of t n ≡ first ∷ second ∷ third ∷ []
      → type_of t n ≡ bind (type_of t second) (λ ty. bind (type_of t third) (λ other. make ty other))

  -- an infix expression of an operator by no operand, by the left one, or by both
  abbrev pub IsOfNone : Infix → JavaType → Type 0
  IsOfNone operator ty = (n : Node) → kind_of t n ≡ Some k.InfixExpression → infix_of t n ≡ Some operator → type_of t n ≡ Return ty

  abbrev pub IsOfLeft : Infix → (JavaType → JavaType) → Type 0
  IsOfLeft operator make = (n left : Node) (rest : List Node) → kind_of t n ≡ Some k.InfixExpression → infix_of t n ≡ Some operator → children_of t n ≡ left ∷ rest
      → type_of t n ≡ bind (type_of t left) (λ ty. Return (make ty))

  abbrev pub IsOfBoth : Infix → Type 0
  IsOfBoth operator = (n left right : Node) → kind_of t n ≡ Some k.InfixExpression → infix_of t n ≡ Some operator → children_of t n ≡ left ∷ right ∷ []
      → type_of t n ≡ bind (type_of t left) (λ ty. bind (type_of t right) (λ other. Return (infix_type operator ty other)))

  -- a unary expression of an operator
  abbrev pub IsOfNoOperand : Unary → JavaType → Type 0
  IsOfNoOperand operator ty = (n : Node) → kind_of t n ≡ Some k.UnaryExpression → unary_of t n ≡ Some operator → type_of t n ≡ Return ty

  abbrev pub IsOfOperand : Unary → (JavaType → JavaType) → Type 0
  IsOfOperand operator make = (n operand : Node) (rest : List Node) → kind_of t n ≡ Some k.UnaryExpression → unary_of t n ≡ Some operator → children_of t n ≡ operand ∷ rest
      → type_of t n ≡ bind (type_of t operand) (λ ty. Return (make ty))
