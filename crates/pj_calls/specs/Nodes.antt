-- The parts of a call: of a method (JLS 15.12), of `new` (JLS 15.9), and of `this` or `super` at the beginning of a constructor (JLS 8.8.7.1). Type arguments that are written
-- before the name are not looked at.
use Rattle.std.specs.Prelude.{ℕ, ◌+◌, ◌||◌, Bool, Option, None, Some, if◌then◌else◌, List, [], ◌∷◌}
use Rattle.std.specs.Option.{option_and_then}
use Rattle.pj_tree.specs.Tree.{Tree, kind_of}
use Rattle.pj_tree.specs.Children.{first_child}
use Rattle.pj_tree.specs.Kinds.{is_kind}
use Rattle.pj_tree.specs.Words.{last_of, words_of}
use Rattle.pj_tree.specs.declared.kind.Kind.{Kind}
use Rattle.pj_tree.specs.declared.kind.Kind.TheVariants as k
use Rattle.pj_tree.specs.declared.node.Node.{Node}
use Rattle.pj_written.specs.Words.{below_child}

module _ (t : Tree) where
  -- ---- the receiver

  abbrev pub unless_arguments : Node → Option Node
  unless_arguments n = if is_kind t k.ArgumentList n then None else Some n

  -- what stands before the dot is the first child, and without it the arguments are
  abbrev pub before_dot : Node → Option Node
  before_dot n = option_and_then unless_arguments (first_child t n)

  -- What is typed before a call is looked up. What stands before the dot of `outer.new C()` and `outer.super()` is not typed.
  abbrev pub receiver_by : Node → Option Kind → Option Node
  receiver_by n (Some k.MethodCall) = before_dot n
  receiver_by n other = None

  abbrev pub receiver_of : Node → Option Node
  receiver_of n = receiver_by n (kind_of t n)

  -- ---- the name of the method stands last

  abbrev pub name_of : Node → List ℕ
  name_of n = last_of [] (words_of t n)

  -- ---- the arguments, in their order

  abbrev pub arguments_of : Node → List Node
  arguments_of n = below_child t n k.ArgumentList

  -- a lambda expression or a method reference has no type of its own (JLS 15.13, 15.27)
  abbrev pub is_function : Node → Bool
  is_function n = is_kind t k.LambdaExpression n || is_kind t k.MethodReference n

  -- the places of such ones among nodes, of which the first stands at a place
  abbrev pub functions_from : ℕ → List Node → List ℕ
  functions_from place [] = []
  functions_from place (n ∷ ns) = if is_function n then place ∷ functions_from (place + 1) ns else functions_from (place + 1) ns

  -- the places of such ones among the arguments, counted from 0
  abbrev pub functions_of : Node → List ℕ
  functions_of n = functions_from 0 (arguments_of n)
