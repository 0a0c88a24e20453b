-- Calls that write nodes. It serves clauses inside the crate alone.
use Rattle.std.specs.Prelude.{◌≡◌, ℕ, ◌≤◌, ◌==◌, Bool, false, ◌&&◌, Option, Some, None, List, [], ◌∷◌, ◌++◌, slice_range}
use Rattle.pj_tree.specs.declared.kind.Kind.{Kind}
use Rattle.pj_tree.specs.declared.kind.Kind.TheVariants as k
use Rattle.pj_tree.specs.declared.node.Span.{Span}
use Rattle.pj_tree.specs.Building.{Call, Open, Close, Own}
use Rattle.pj_shape.specs.declared.made.Made.{Made}
use Rattle.pj_shape.specs.Shaped.{Nodes, one_node}
use Rattle.pj_shape.specs.Flat.{flat}
use Rattle.pj_shape.specs.Marks.{marks}
use Rattle.pj_shape.specs.Typed.{Words}
use Rattle.pj_shape.specs.Written.{begin_of, end_of}

-- the calls that give tokens
abbrev pub owns : List Span → List Call
owns [] = []
owns (token ∷ tokens) = Own token ∷ owns tokens

-- the calls that write a type expression with one class type
abbrev pub type_calls : List ℕ → List Span → ℕ → ℕ → List Call
type_calls text spans i j =
    Open k.TypeExpression (begin_of text spans i) ∷ Open k.ClassType (begin_of text spans i) ∷
    (owns (slice_range spans i j) ++ Close (end_of text spans i j) ∷ Close (end_of text spans i j) ∷ [])

-- the node takes tokens up to one of so many places, none of which stands before its first
abbrev pub IsWithin : ℕ → Made → Type 0
IsWithin count m = (m.from ≤ m.to) × (m.to ≤ count)

-- whether a node that is marked, and begins at i, is a class where it stands
abbrev pub is_class_by : Option ℕ → ℕ → Bool → Bool
is_class_by None i marked = false
is_class_by (Some start) i marked = (i == start) && marked

-- one node, and those below it
pub record Root : Type 0 where
  pub kind : Kind
  pub from : ℕ
  pub to : ℕ
  pub below : Nodes

abbrev pub root_of : Root → Nodes
root_of r = one_node r.kind r.from r.to r.below

pub record IsRoot (w : Words) (r : Root) (nodes : List Made) (marked : List Bool) : Type 0 where
  pub nodes_are : nodes ≡ flat (root_of r)
  pub marks_are : marked ≡ marks w (root_of r)
