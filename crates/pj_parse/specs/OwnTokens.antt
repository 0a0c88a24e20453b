-- Which words of a file are own tokens of which node, and how the nodes stand in one another. A word is a token that is no comment.
use Rattle.std.specs.Prelude.{◌≡◌, ◌≤◌, ◌<◌, ◌⊎◌, None, Some, List, [], length, Contains}
use Rattle.pj_tree.specs.Nested.{Parts, preorder, tokens_of}
use Rattle.pj_tree.specs.Tree.{Tree, TreeNode, node_of}
use Rattle.pj_tree.specs.declared.node.Node.{Node}
use Rattle.pj_tree.specs.declared.node.Span.{Span}
use Rattle.pj_shape.specs.InOrder.{StandInOrder, all_tokens}
use Rattle.pj_shape.specs.Words.{AreInOrder}

-- The nodes of the tree are written by parts of its text that stand in order, and in which each word stands once, none of them outside of the root.
pub record HasEachWord (t : Tree) (ws : List Span) : Type 0 where
  pub parts : Parts
  pub nodes_are : t.nodes ≡ preorder None 0 parts
  pub in_order : StandInOrder 0 (length t.text) parts
  pub words_are : all_tokens parts ≡ ws
  pub rooted : tokens_of parts ≡ []

-- ---- the same by the numbers of nodes

-- the span is one of the own tokens of the node
abbrev pub Owns : Tree → Node → Span → Type 0
Owns t n s = (x : TreeNode) × (node_of t n ≡ Some x) × Contains x.own s

-- one node owns the span
pub record HasOneOwner (t : Tree) (s : Span) : Type 0 where
  pub owner : Node
  pub owns : Owns t owner s
  pub one : (n : Node) → Owns t n s → n ≡ owner

abbrev pub LiesIn : Span → Span → Type 0
LiesIn a b = (b.from ≤ a.from) × (a.to ≤ b.to)

abbrev pub LieApart : Span → Span → Type 0
LieApart a b = (a.to ≤ b.from) ⊎ (b.to ≤ a.from)

pub record HasOwnTokens (t : Tree) (ws : List Span) : Type 0 where
  -- each word is an own token of one node, and of no other
  pub owned : (s : Span) → Contains ws s → HasOneOwner t s
  pub words : (n : Node) (s : Span) → Owns t n s → Contains ws s
  pub in_order : (n : Node) (x : TreeNode) → node_of t n ≡ Some x → AreInOrder x.own
  -- the own tokens of a node lie in its span, and in that of none of its children
  pub inside : (n : Node) (x : TreeNode) (s : Span) → node_of t n ≡ Some x → Contains x.own s → LiesIn s x.span
  pub outside : (n m : Node) (x y : TreeNode) (s : Span) → node_of t n ≡ Some x → node_of t m ≡ Some y → y.parent ≡ Some n → Contains x.own s → LieApart s y.span
  -- children lie in the span of their parent, in order and apart
  pub children : (n m : Node) (x y : TreeNode) → node_of t n ≡ Some x → node_of t m ≡ Some y → y.parent ≡ Some n → LiesIn y.span x.span
  pub siblings : (n m : Node) (x y : TreeNode) → node_of t n ≡ Some x → node_of t m ≡ Some y → x.parent ≡ y.parent → n.0 < m.0 → x.span.to ≤ y.span.from
