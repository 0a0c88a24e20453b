-- Operands are nodes of the tree.
use Rattle.std.proofs.Common.{ℕ, ◌<◌, List, [], ◌∷◌, length, Option, Some, None}
use Rattle.std.specs.Prelude.{Bool, true, false, if◌then◌else◌}
use Rattle.std.specs.Option.{IfSome, option_and_then}
use Rattle.pj_tree.specs.Children.{first_in}
use Rattle.pj_tree.specs.Kinds.{is_kind}
use Rattle.pj_calls.specs.Nodes.{before_dot, unless_arguments}
use Rattle.pj_tree.specs.Tree.{Tree, children_of}
use Rattle.pj_tree.specs.declared.kind.Kind.{Kind}
use Rattle.pj_tree.specs.declared.kind.Kind.TheVariants as k
use Rattle.pj_tree.specs.declared.node.Node.{Node}
use Rattle.pj_tree.proofs.Inside.{AreInside}
use Rattle.pj_operators.specs.declared.operators.Infix.{Infix}
use Rattle.pj_operators.specs.declared.operators.Infix.TheVariants as i
use Rattle.pj_operators.specs.declared.operators.Unary.{Unary}
use Rattle.pj_operators.specs.declared.operators.Unary.TheVariants as u
use Rattle.pj_operators.specs.Operators.{infix_of, unary_of}
use Rattle.pj_written.proofs.Inside.{children_inside}
use Rattle.pj_exprtypes.specs.Operands.{but_first, first_only, if_some, infix_operands, operands_by, unary_operands}

first_inside : (count : ℕ) (ns : List Node) → AreInside count ns → AreInside count (first_only ns)
first_inside count [] inside = tt
first_inside count (n ∷ ns) inside = (inside.0, tt)

rest_inside : (count : ℕ) (ns : List Node) → AreInside count ns → AreInside count (but_first ns)
rest_inside count [] inside = tt
rest_inside count (n ∷ ns) inside = inside.1

infix_inside : (count : ℕ) (o : Option Infix) (ns : List Node) → AreInside count ns → AreInside count (infix_operands o ns)
infix_inside count None ns inside = tt
infix_inside count (Some i.Test) ns inside = tt
infix_inside count (Some i.Shift) ns inside = first_inside count ns inside
infix_inside count (Some i.Sum) ns inside = inside
infix_inside count (Some i.Bitwise) ns inside = inside
infix_inside count (Some i.Arithmetic) ns inside = inside

unary_inside : (count : ℕ) (o : Option Unary) (ns : List Node) → AreInside count ns → AreInside count (unary_operands o ns)
unary_inside count None ns inside = tt
unary_inside count (Some u.Not) ns inside = tt
unary_inside count (Some u.Step) ns inside = first_inside count ns inside
unary_inside count (Some u.Sign) ns inside = first_inside count ns inside

pub some_inside : (count : ℕ) (o : Option Node) → IfSome o (λ (m : Node). m.0 < count) → AreInside count (if_some o)
some_inside count None inside = tt
some_inside count (Some n) inside = (inside, tt)

unless_inside : (count : ℕ) (b : Bool) (n : Node) → n.0 < count → IfSome (if b then None else Some n) (λ (m : Node). m.0 < count)
unless_inside count true n inside = tt
unless_inside count false n inside = inside

dot_inside : (t : Tree) (count : ℕ) (ns : List Node) → AreInside count ns → IfSome (option_and_then (unless_arguments t) (first_in ns)) (λ (m : Node). m.0 < count)
dot_inside t count [] inside = tt
dot_inside t count (n ∷ ns) inside = unless_inside count (is_kind t k.ArgumentList n) n inside.0

pub operands_inside : (t : Tree) (n : Node) (kind : Option Kind) → AreInside (length t.nodes) (operands_by t n kind)
operands_inside t n (Some k.InfixExpression) = infix_inside (length t.nodes) (infix_of t n) (children_of t n) (children_inside t n)
operands_inside t n (Some k.UnaryExpression) = unary_inside (length t.nodes) (unary_of t n) (children_of t n) (children_inside t n)
operands_inside t n (Some k.ConditionalExpression) = rest_inside (length t.nodes) (children_of t n) (children_inside t n)
operands_inside t n (Some k.FieldAccess) = first_inside (length t.nodes) (children_of t n) (children_inside t n)
operands_inside t n (Some k.AssignmentExpression) = first_inside (length t.nodes) (children_of t n) (children_inside t n)
operands_inside t n (Some k.ArrayAccess) = first_inside (length t.nodes) (children_of t n) (children_inside t n)
operands_inside t n (Some k.MethodCall) = some_inside (length t.nodes) (before_dot t n) (dot_inside t (length t.nodes) (children_of t n) (children_inside t n))
operands_inside t n other = tt
