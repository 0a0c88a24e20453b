-- What the search for the nodes of an axis keeps to.
use Rattle.std.specs.Prelude.{ℕ, ◌+◌, ◌-◌, map, filter, ◌≡◌, ◌≤◌, ◌<◌, Bool, true, false, List, Option, MatchOption, IsTrue, ◌↔◌, length}
use Rattle.pj_tree.specs.declared.node.Node.{Node}
use Rattle.pj_xexpressions.specs.declared.axis.Axis.{Axis}
use Rattle.pj_xexpressions.specs.declared.axis.Axis.TheVariants.{Child, FollowingSibling, AncestorOrSelf}
use Rattle.pj_tree.specs.Tree.{Tree, parent_of, is_descendant}
use Rattle.std.specs.List.{range_with_len}
use Rattle.pj_xaxes.specs.Axes.{on_axis, is_reverse, same_parent, node, turned}

-- of so many numbers, from one on, the nodes that pass a test
unfoldable pub picked : (Node → Bool) → ℕ → ℕ → List Node
picked test from count = filter test (map node (range_with_len from count))

-- of the nodes from one number on and below another, those on the axis of n, in axis order
abbrev pub axis_between : Tree → Axis → Node → ℕ → ℕ → List Node
axis_between t axis n low high = turned (is_reverse axis) (picked (on_axis t axis n) low (high - low))

-- whether on this axis subtrees are stepped over
abbrev pub is_over : Axis → Bool
is_over Child = true
is_over FollowingSibling = true
is_over _ = false

-- the number from which on subtrees may be stepped over
abbrev pub least : Axis → Node → ℕ
least Child n = n.0 + 1
least FollowingSibling n = n.0 + 1
least _ n = 0

-- the number below which nodes of a reverse axis stand
abbrev pub reach : Axis → Node → ℕ
reach AncestorOrSelf n = n.0 + 1
reach _ n = n.0

-- the number past the parent, and 0 where there is none
abbrev pub IsPastParent : Option Node → ℕ → Type 0
IsPastParent parent number = MatchOption parent (number ≡ 0) (λ p. number ≡ p.0 + 1)

-- no number from one on and below another is that of a node that passes the test
pub record NoneFrom (test : Node → Bool) (from to : ℕ) : Type 0 where
  pub each : (k : ℕ) → from ≤ k → k < to → test (record { 0 = k }) ≡ false

-- the number past all that is below the parent, and 0 where there is none
abbrev pub IsPastSiblings : Tree → Option Node → ℕ → Type 0
IsPastSiblings t parent number = MatchOption parent (number ≡ 0) (λ p. (k : Node) → IsTrue (is_descendant t k p) ↔ ((p.0 < k.0) × (k.0 < number)))

-- the number past the sibling before n, and 0 where there is none
pub record IsPastSiblingBefore (t : Tree) (n : Node) (number : ℕ) : Type 0 where
  pub before : number ≤ n.0
  pub sibling : 0 < number → parent_of t (node (number - 1)) ≡ parent_of t n
  pub none : NoneFrom (λ k. same_parent (parent_of t k) (parent_of t n)) number n.0

-- all nodes on the axis of n stand from one number on and below another
pub record IsWindow (t : Tree) (axis : Axis) (n : Node) (low high : ℕ) : Type 0 where
  pub within : high ≤ length t.nodes
  pub before : NoneFrom (on_axis t axis n) 0 low
  pub behind : NoneFrom (on_axis t axis n) high (length t.nodes)
  pub from_least : least axis n ≤ low
  pub to_reach : is_reverse axis ≡ true → high ≤ reach axis n

-- what is kept of a search for the nodes of an axis
pub record IsAmong (t : Tree) (axis : Axis) (n : Node) (low high : ℕ) : Type 0 where
  pub inside : n.0 < length t.nodes
  pub within : high ≤ length t.nodes
  pub from_least : least axis n ≤ low
  pub to_reach : is_reverse axis ≡ true → high ≤ reach axis n
