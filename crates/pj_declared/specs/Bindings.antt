-- Where the scopes of pattern variables end.
--
-- JLS 6.3.1 and 6.3.2 have a pattern variable in scope where its pattern has matched, by what the conditions around it are. Here its
-- scope goes from the pattern to the end of the innermost block, body or branch around it, whatever `!`, `&&` and `||` say.
use Rattle.std.specs.Prelude.{◌==◌, ◌&&◌, ◌||◌, Bool, true, false, not, Option, None, Some, if◌then◌else◌, List, [], ◌∷◌}
use Rattle.std.specs.Option.{option_map_or}
use Rattle.pj_tree.specs.Tree.{Tree, kind_of, ancestors_of}
use Rattle.pj_tree.specs.declared.kind.Kind.{Kind}
use Rattle.pj_tree.specs.declared.kind.Kind.TheVariants as k
use Rattle.pj_tree.specs.declared.node.Node.{Node}
use Rattle.pj_tree.specs.Children.{first_child}
use Rattle.pj_declared.specs.Bodies.{is_body}

-- a block (JLS 14.2), and a branch of a switch (JLS 14.11.1)
abbrev pub is_branch : Kind → Bool
is_branch k.Block = true
is_branch k.SwitchArrowBranch = true
is_branch k.SwitchFallthroughBranch = true
is_branch other = false

-- of an `if` the statements (JLS 14.9), of a conditional expression the second and third operand (JLS 15.25), of a lambda expression the body (JLS 15.27.2): all but the first child
abbrev pub has_branches : Kind → Bool
has_branches k.IfStatement = true
has_branches k.ConditionalExpression = true
has_branches k.LambdaExpression = true
has_branches other = false

abbrev pub is_first_child : Tree → Node → Node → Bool
is_first_child t around n = option_map_or (λ (first : Node). first.0 == n.0) (first_child t around) false

-- by the kinds of a node and of the one above: a branch, or a member of a class (JLS 8.1.7)
abbrev pub ends_by : Tree → Node → Node → Kind → Kind → Bool
ends_by t around n above kind = is_branch kind || is_body above || (has_branches above && not (is_first_child t around n))

abbrev pub ends_above : Tree → Node → Node → Kind → Bool
ends_above t around n above = option_map_or (ends_by t around n above) (kind_of t n) false

-- whether the scope of a pattern in the node, which is a child of the other one, ends with it
abbrev pub ends_binding : Tree → Node → Node → Bool
ends_binding t around n = option_map_or (ends_above t around n) (kind_of t around) false

-- the first of a node and its ancestors that ends it
abbrev pub binding_end_from : Tree → Node → List Node → Option Node
binding_end_from t n [] = None
binding_end_from t n (around ∷ above) = if ends_binding t around n then Some n else binding_end_from t around above

-- what the scope of a pattern variable lies within, and nothing for a pattern outside of all bodies of classes
abbrev pub binding_end : Tree → Node → Option Node
binding_end t pattern = binding_end_from t pattern (ancestors_of t pattern)
