-- The nodes that a derivation has by a table of shapes.
use Rattle.std.specs.Prelude.{ℕ, ◌+◌, Bool, true, false, not, ◌&&◌, ◌==◌, List, slice_index_or}
use Rattle.pj_tree.specs.declared.kind.Kind.{Kind}
use Rattle.pj_peg_grammar.specs.Derivation.{Forest, no_tree, tree}
use Rattle.pj_shape.specs.declared.shape.Shape.{Shape}
use Rattle.pj_shape.specs.declared.shape.Shape.TheVariants.{Pass, Node, Joined, Turn, Segment}

-- Nodes one after the other. A node has a kind, the places from which and up to which it takes the tokens, its children, and
-- the nodes after it.
pub data Nodes : Type 0 where
  no_nodes : Nodes
  node : Kind → ℕ → ℕ → Nodes → Nodes → Nodes

abbrev pub append : Nodes → Nodes → Nodes
append no_nodes ns = ns
append (node k i j below after) ns = node k i j below (append after ns)

abbrev pub one_node : Kind → ℕ → ℕ → Nodes → Nodes
one_node k i j below = node k i j below no_nodes

-- a node over two or more nodes, and else what there is
abbrev pub joined : Kind → ℕ → ℕ → Nodes → Nodes
joined k i j no_nodes = no_nodes
joined k i j (node l m n below no_nodes) = node l m n below no_nodes
joined k i j (node l m n below (node l' m' n' under after)) = one_node k i j (node l m n below (node l' m' n' under after))

-- The nodes of a body so far, and those that a rule of the body adds. The body begins at the place `start`, the rule took the
-- tokens from i to j, and its own body has the nodes `ns`.
abbrev pub with_rule : Shape → ℕ → ℕ → ℕ → Nodes → Nodes → Nodes
with_rule Pass start i j so_far ns = append so_far ns
with_rule (Node k) start i j so_far ns = append so_far (one_node k i j ns)
with_rule (Joined k) start i j so_far ns = append so_far (joined k i j ns)
with_rule (Turn k) start i j so_far ns = one_node k start j (append so_far ns)
with_rule (Segment k) start i j so_far ns = one_node k start j (append so_far ns)

-- ---- names of classes

abbrev pub is_empty : Nodes → Bool
is_empty no_nodes = true
is_empty (node k i j below after) = false

abbrev pub is_last : Forest → Bool
is_last no_tree = true
is_last (tree r i j below after) = false

-- Whether a segment of a name, from i to j, is a package's word: it is one word that begins with a small letter, only such
-- words stand before it, since none of them made a node, and a segment follows it.
abbrev pub leads : (ℕ → Bool) → ℕ → ℕ → Nodes → Forest → Bool
leads small i j so_far after = (small i && j == i + 1) && (is_empty so_far && not (is_last after))

-- what a rule is where it stands: a segment that leads makes nothing of its own, and any other one is a turn
abbrev pub acts : Shape → Bool → Shape
acts Pass leads = Pass
acts (Node k) leads = Node k
acts (Joined k) leads = Joined k
acts (Turn k) leads = Turn k
acts (Segment k) true = Pass
acts (Segment k) false = Turn k

-- ---- derivations

-- the shape of the rule; one past the table passes its nodes on
abbrev pub shape_of : List Shape → ℕ → Shape
shape_of shapes r = slice_index_or shapes r Pass

-- The nodes of a body that begins at the place `start`: those so far, and those of the derivations that follow, the first of
-- which is a rule that took the tokens from i to j. `small` says whether the word at a place begins with a small letter.
abbrev pub shaped : List Shape → (ℕ → Bool) → ℕ → Nodes → Forest → Nodes
shaped shapes small start so_far no_tree = so_far
shaped shapes small start so_far (tree r i j below after) =
    shaped shapes small start
    (with_rule (acts (shape_of shapes r) (leads small i j so_far after)) start i j so_far (shaped shapes small i no_nodes below)) after

-- the nodes of a derivation, whose body begins before the first token
abbrev pub nodes_of : List Shape → (ℕ → Bool) → Forest → Nodes
nodes_of shapes small d = shaped shapes small 0 no_nodes d
