-- A syntax tree as contracts see it: a text, and the list of its nodes in preorder.
-- All that is said of a tree is said by this list alone.
use Rattle.std.specs.Str.{IsCharBoundary}
use Rattle.std.specs.Prelude.{ℕ, ◌+◌, ◌≡◌, ◌≢◌, ◌<◌, ◌≤◌, ◌==◌, Bool, false, IsTrue, max, Option, None, Some, List, [], ◌∷◌, ◌++◌, length, map, filter, fold, slice_index_or}
use Rattle.std.specs.List.{slice_get, slice_range, list_any, enumerate_from, All}
use Rattle.std.specs.Option.{option_map, option_map_or, MatchOption, IsSomeAnd}
use Rattle.pj_tree.specs.declared.kind.Kind.{Kind}
use Rattle.pj_tree.specs.declared.node.Node.{Node}
use Rattle.pj_tree.specs.declared.node.Span.{Span}

-- a node; its own tokens are those that were given to it and to no child, in order
pub record TreeNode : Type 0 where
  pub kind : Kind
  pub parent : Option Node
  pub span : Span
  pub own : List Span

-- the node with the number n is the n-th of the list, from 0
pub record Tree : Type 0 where
  pub text : List ℕ
  pub nodes : List TreeNode

-- ---- what is said of one node

abbrev pub node_of : Tree → Node → Option TreeNode
node_of t n = slice_get t.nodes n.0

abbrev pub kind_of : Tree → Node → Option Kind
kind_of t n = option_map (λ x. x.kind) (node_of t n)

abbrev pub span_of : Tree → Node → Option Span
span_of t n = option_map (λ x. x.span) (node_of t n)

-- the bytes of the text at a span
abbrev pub slice_at : List ℕ → Span → List ℕ
slice_at text s = slice_range text s.from s.to

abbrev pub text_of : Tree → Node → Option (List ℕ)
text_of t n = option_map (slice_at t.text) (span_of t n)

-- the texts of the own tokens, in order
abbrev pub own_of : Tree → Node → Option (List (List ℕ))
own_of t n = option_map (λ x. map (slice_at t.text) x.own) (node_of t n)

-- ---- what the parents say

-- the parent of each node, in order; the root has none
abbrev pub parents : List TreeNode → List (Option Node)
parents nodes = map (λ x. x.parent) nodes

-- the parent of the node, where it has one
abbrev pub parent_in : List (Option Node) → Node → Option Node
parent_in ps n = slice_index_or ps n.0 None

-- the parent of the node, and `None` for the root; past the last node too
abbrev pub parent_of : Tree → Node → Option Node
parent_of t n = parent_in (parents t.nodes) n

-- whether this parent is the node n
abbrev pub is_parent : Node → Option Node → Bool
is_parent n parent = option_map_or (λ p. p.0 == n.0) parent false

abbrev pub node_numbered : ℕ × Option Node → Node
node_numbered p = record { 0 = p.0 }

-- the nodes whose parent is n, in order
abbrev pub children_in : List (Option Node) → Node → List Node
children_in ps n = map node_numbered (filter (λ p. is_parent n p.1) (enumerate_from 0 ps))

abbrev pub children_of : Tree → Node → List Node
children_of t n = children_in (parents t.nodes) n

-- no node from this number on and before n has the parent that n has
abbrev pub NoSiblingBetween : List (Option Node) → ℕ → Node → Type 0
NoSiblingBetween ps from n = (k : Node) → from ≤ k.0 → k.0 < n.0 → parent_in ps k ≢ parent_in ps n

-- m is the sibling before n: it stands before n, has the parent that n has, and no node between them has it
pub record IsSiblingBefore (ps : List (Option Node)) (n m : Node) : Type 0 where
  pub before : m.0 < n.0
  pub same_parent : parent_in ps m ≡ parent_in ps n
  pub none_between : NoSiblingBetween ps (m.0 + 1) n

-- the sibling before n, and none where no node before n has the parent that n has: where n is the first child, or the root
abbrev pub IsPrecedingSibling : Tree → Node → Option Node → Type 0
IsPrecedingSibling t n sibling = MatchOption sibling (NoSiblingBetween (parents t.nodes) 0 n) (IsSiblingBefore (parents t.nodes) n)

-- the ancestors of a node that has this parent: the parent, and the parent's ancestors; `known` has those of each earlier node, and a parent comes earlier
abbrev pub ancestors_by : List (List Node) → Option Node → List Node
ancestors_by known None = []
ancestors_by known (Some p) = p ∷ slice_index_or known p.0 []

-- the ancestors of each node behind those that are known, node by node
abbrev pub ancestors_after : List (List Node) → List (Option Node) → List (List Node)
ancestors_after known [] = known
ancestors_after known (p ∷ ps) = ancestors_after (known ++ ancestors_by known p ∷ []) ps

-- the ancestors of each node, the innermost first, where each parent comes before its children
unfoldable pub ancestors : List (Option Node) → List (List Node)
ancestors ps = ancestors_after [] ps

abbrev pub ancestors_in : List (Option Node) → Node → List Node
ancestors_in ps n = slice_index_or (ancestors ps) n.0 []

abbrev pub ancestors_of : Tree → Node → List Node
ancestors_of t n = ancestors_in (parents t.nodes) n

-- whether m is a descendant of n, which is whether n is an ancestor of m
abbrev pub is_descendant_in : List (Option Node) → Node → Node → Bool
is_descendant_in ps m n = list_any (λ a. a.0 == n.0) (ancestors_in ps m)

abbrev pub is_descendant : Tree → Node → Node → Bool
is_descendant t m n = is_descendant_in (parents t.nodes) m n

-- the depth of a node is one more than the number of its ancestors; this is the depth of the deepest, and 0 without nodes
abbrev pub greatest_depth_in : List (Option Node) → ℕ
greatest_depth_in ps = fold max 0 (map (λ above. length above + 1) (ancestors ps))

abbrev pub greatest_depth : List TreeNode → ℕ
greatest_depth nodes = greatest_depth_in (parents nodes)

-- ---- a tree as a whole

-- the span is one of the text, and cuts no character
pub record IsSpanOf (text : List ℕ) (s : Span) : Type 0 where
  pub ordered : s.from ≤ s.to
  pub begins : IsCharBoundary text s.from
  pub ends : IsCharBoundary text s.to

-- whether m is n or an ancestor of n
abbrev pub is_node_or_ancestor : Tree → Node → Node → Bool
is_node_or_ancestor t m n = list_any (λ a. a.0 == m.0) (n ∷ ancestors_of t n)

-- what every syntax tree is
pub record IsSyntaxTree (t : Tree) : Type 0 where
  pub some : 0 < length t.nodes
  pub few : length t.nodes ≤ 2000000
  pub shallow : greatest_depth t.nodes ≤ 1000
  -- the first node is the root, and each other one has a parent, with a smaller number
  pub root : parent_of t (record { 0 = 0 }) ≡ None
  pub below : (n : Node) → 0 < n.0 → n.0 < length t.nodes → IsSomeAnd (parent_of t n) (λ p. p.0 < n.0)
  -- the nodes are in preorder: the parent of the node behind n is n or an ancestor of n
  pub preorder : (n : Node) → n.0 + 1 < length t.nodes → IsSomeAnd (parent_of t (record { 0 = n.0 + 1 })) (λ p. IsTrue (is_node_or_ancestor t p n))
  -- the ancestors of a node are its parent and the parent's ancestors
  pub ancestry : (n : Node) → n.0 < length t.nodes → MatchOption (parent_of t n) (ancestors_of t n ≡ []) (λ p. ancestors_of t n ≡ p ∷ ancestors_of t p)
  -- all spans are spans of the text
  pub spans : All (λ x. IsSpanOf t.text x.span) t.nodes
  pub tokens : All (λ x. All (IsSpanOf t.text) x.own) t.nodes
