-- What a builder has made: the nodes so far, in preorder, and the innermost node that is open.
-- A node's parent is the node that was the innermost open one when it was opened; the open nodes are that node and its ancestors.
use Rattle.std.specs.Prelude.{ℕ, zero, suc, ◌≡◌, ◌<◌, nat_lt, if◌then◌else◌, Option, None, Some, IsSome, Result, Ok, Err, List, [], ◌∷◌, ◌++◌, length, fold}
use Rattle.std.specs.List.{All}
use Rattle.pj_tree.specs.Tree.{TreeNode, Tree, parents, parent_in, greatest_depth, IsSpanOf}
use Rattle.pj_tree.specs.declared.kind.Kind.{Kind}
use Rattle.pj_tree.specs.declared.node.Node.{Node}
use Rattle.pj_tree.specs.declared.node.Span.{Span}
use Rattle.pj_tree.specs.declared.shape_fault.ShapeFault.{ShapeFault}
use Rattle.pj_tree.specs.declared.shape_fault.ShapeFault.TheVariants.{TooDeep, TooMany}

pub record Building : Type 0 where
  pub text : List ℕ
  pub nodes : List TreeNode
  pub current : Option Node

-- a builder of a text, before the first call
abbrev pub started : List ℕ → Building
started text = record { text = text; nodes = []; current = None }

-- ---- the three calls

-- a node that was just opened: a child of the innermost open node, which ends where it begins and has no own tokens yet
abbrev pub new_node : Kind → Option Node → ℕ → TreeNode
new_node kind parent from = record { kind = kind; parent = parent; span = record { from = from; to = from }; own = [] }

-- a node is opened at an offset
abbrev pub opened : Building → Kind → ℕ → Building
opened b kind from = record {
  text = b.text;
  nodes = b.nodes ++ new_node kind b.current from ∷ [];
  current = Some (record { 0 = length b.nodes });
}

abbrev pub ends_at : ℕ → TreeNode → TreeNode
ends_at to x = record { kind = x.kind; parent = x.parent; span = record { from = x.span.from; to = to }; own = x.own }

abbrev pub gains : Span → TreeNode → TreeNode
gains token x = record { kind = x.kind; parent = x.parent; span = x.span; own = x.own ++ token ∷ [] }

-- the nodes with the one of the number n changed
abbrev pub amended : (TreeNode → TreeNode) → List TreeNode → ℕ → List TreeNode
amended change [] n = []
amended change (x ∷ xs) zero = change x ∷ xs
amended change (x ∷ xs) (suc n) = x ∷ amended change xs n

abbrev pub closed_at : Building → ℕ → Option Node → Building
closed_at b to None = b
closed_at b to (Some n) = record {
  text = b.text;
  nodes = amended (ends_at to) b.nodes n.0;
  current = parent_in (parents b.nodes) n;
}

-- the innermost open node ends at an offset, and is closed
abbrev pub closed : Building → ℕ → Building
closed b to = closed_at b to b.current

abbrev pub owned_at : Building → Span → Option Node → Building
owned_at b token None = b
owned_at b token (Some n) = record { text = b.text; nodes = amended (gains token) b.nodes n.0; current = b.current }

-- a token is put behind the own tokens of the innermost open node
abbrev pub owned : Building → Span → Building
owned b token = owned_at b token b.current

-- ---- lists of calls

pub data Call : Type 0 where
  Open : Kind → ℕ → Call
  Close : ℕ → Call
  Own : Span → Call

abbrev pub after_call : Building → Call → Building
after_call b (Open kind from) = opened b kind from
after_call b (Close to) = closed b to
after_call b (Own token) = owned b token

-- what the calls make of a text, from the first on
abbrev pub built : List ℕ → List Call → Building
built text calls = fold after_call (started text) calls

-- ---- the end

-- one root was opened, all nodes are closed, and all spans are spans of the text
pub record IsWhole (b : Building) : Type 0 where
  pub rooted : 0 < length b.nodes
  pub one_root : (n : Node) → 0 < n.0 → n.0 < length b.nodes → IsSome (parent_in (parents b.nodes) n)
  pub all_closed : b.current ≡ None
  pub spans : All (λ x. IsSpanOf b.text x.span) b.nodes
  pub tokens : All (λ x. All (IsSpanOf b.text) x.own) b.nodes

abbrev pub tree_of : Building → Tree
tree_of b = record { text = b.text; nodes = b.nodes }

-- the tree, unless a node is deeper than 1,000 or, tested after that, there are more than 2,000,000 nodes
abbrev pub finished : Building → Result Tree ShapeFault
finished b =
    if nat_lt 1000 (greatest_depth b.nodes) then Err (TooDeep (greatest_depth b.nodes))
    else if nat_lt 2000000 (length b.nodes) then Err (TooMany (length b.nodes))
    else Ok (tree_of b)
