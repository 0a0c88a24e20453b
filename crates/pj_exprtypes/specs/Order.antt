-- What is still to do where variables that are declared by `var` are typed before a node.
use Rattle.std.specs.Prelude.{ℕ, ◌≡◌, ◌<◌, ◌++◌, length, Bool, IsTrue, List, map, reverse}
use Rattle.std.specs.List.{All}
use Rattle.pj_tree.specs.Tree.{Tree}
use Rattle.pj_tree.specs.declared.node.Node.{Node}
use Rattle.pj_names.specs.JavaType.{JavaType}
use Rattle.pj_names.specs.Asking.{Asking}
use Rattle.pj_names.specs.Told.{Worlds}
use Rattle.pj_exprtypes.specs.declared.order.Pending.{Pending}
use Rattle.pj_exprtypes.specs.declared.order.Pending.TheVariants as pending
use Rattle.pj_exprtypes.specs.Parts.{IsPartOf}
use Rattle.pj_exprtypes.specs.TypeOf.{earlier, typed, var_of}

-- the node
abbrev pub node_of : Pending → Node
node_of (pending.Visit before left n) = n
node_of (pending.Find id) = id
node_of (pending.Pass before left n) = n

-- the meaning that is looked at, or asked
abbrev pub asked_by : Tree → Pending → Asking JavaType
asked_by t (pending.Visit before left n) = typed t (earlier t before) left n
asked_by t (pending.Find id) = var_of t id
asked_by t (pending.Pass before left n) = typed t (earlier t before) left n

-- It is of a node of the tree, and asks nothing that a meaning does not ask, where the worlds are told.
pub record IsDue (t : Tree) (is_told : Bool) (worlds : Worlds) (whole : Asking JavaType) (p : Pending) : Type 0 where
  pub inside : (node_of p).0 < length t.nodes
  pub part : IsTrue is_told → IsPartOf worlds (asked_by t p) whole

-- what is put behind a list is of nodes of the tree, and asks nothing that a meaning does not ask
pub record AddsParts (t : Tree) (is_told : Bool) (worlds : Worlds) (whole : Asking JavaType) (old new : List Pending) : Type 0 where
  pub more : List Pending
  pub puts : new ≡ old ++ more
  pub are_due : All (IsDue t is_told worlds whole) more

-- Visits of nodes: what stands last is done next, so the first node stands last.
abbrev pub visits : ℕ → ℕ → List Node → List Pending
visits before left nodes = map (λ n. pending.Visit before left n) (reverse nodes)
