-- The axes of nodes (XPath 2.0, 3.2.1.1), by parents alone: an ancestor is a parent, or a parent's ancestor.
use Rattle.std.specs.Prelude.{ℕ, ◌==◌, Bool, true, false, not, ◌&&◌, ◌||◌, nat_lt, List, length, map, filter, reverse, Option, Some, if◌then◌else◌}
use Rattle.std.specs.List.{range_with_len}
use Rattle.pj_tree.specs.declared.node.Node.{Node}
use Rattle.pj_tree.specs.Tree.{Tree, parent_of, is_parent, is_descendant}
use Rattle.pj_xexpressions.specs.declared.axis.Axis.{Axis}
use Rattle.pj_xexpressions.specs.declared.axis.Axis.TheVariants.{Child, Descendant, SelfNode, DescendantOrSelf, FollowingSibling, Following, Parent, Ancestor, PrecedingSibling, Preceding, AncestorOrSelf}

-- whether both parents are there and are the same
abbrev pub same_parent : Option Node → Option Node → Bool
same_parent (Some p) (Some q) = p.0 == q.0
same_parent _ _ = false

-- whether the node m is on the axis of the node n
abbrev pub on_axis : Tree → Axis → Node → Node → Bool
on_axis t Child n m = is_parent n (parent_of t m)
on_axis t Descendant n m = is_descendant t m n
on_axis t SelfNode n m = m.0 == n.0
on_axis t DescendantOrSelf n m = m.0 == n.0 || is_descendant t m n
on_axis t FollowingSibling n m = nat_lt n.0 m.0 && same_parent (parent_of t m) (parent_of t n)
on_axis t Following n m = nat_lt n.0 m.0 && not (is_descendant t m n)
on_axis t Parent n m = is_parent m (parent_of t n)
on_axis t Ancestor n m = is_descendant t n m
on_axis t PrecedingSibling n m = nat_lt m.0 n.0 && same_parent (parent_of t m) (parent_of t n)
on_axis t Preceding n m = nat_lt m.0 n.0 && not (is_descendant t n m)
on_axis t AncestorOrSelf n m = m.0 == n.0 || is_descendant t n m

-- whether the axis goes backwards (XPath 2.0, 3.2.1.1)
abbrev pub is_reverse : Axis → Bool
is_reverse Child = false
is_reverse Descendant = false
is_reverse SelfNode = false
is_reverse DescendantOrSelf = false
is_reverse FollowingSibling = false
is_reverse Following = false
is_reverse Parent = true
is_reverse Ancestor = true
is_reverse PrecedingSibling = true
is_reverse Preceding = true
is_reverse AncestorOrSelf = true

abbrev pub node : ℕ → Node
node number = record { 0 = number }

-- the nodes of the tree, in the order of their numbers
abbrev pub all_nodes : Tree → List Node
all_nodes t = map node (range_with_len 0 (length t.nodes))

abbrev pub turned : Bool → List Node → List Node
turned backwards nodes = if backwards then reverse nodes else nodes

-- the axis of n: of all nodes of the tree, those that are on it, in axis order: ascending, and descending on a reverse
-- axis
abbrev pub axis_nodes : Tree → Axis → Node → List Node
axis_nodes t axis n = turned (is_reverse axis) (filter (on_axis t axis n) (all_nodes t))
