-- What may be typed of a subject: its nodes are those of the file, and an expression goes no deeper than nodes are typed within one another.
use Rattle.std.specs.Prelude.{ℕ, ◌≡◌, ◌<◌, ◌≤◌, length}
use Rattle.pj_tree.specs.Tree.{Tree}
use Rattle.pj_tree.specs.declared.node.Node.{Node}
use Rattle.pj_exprtypes.specs.declared.held.Subject.{Subject}
use Rattle.pj_exprtypes.specs.declared.held.Subject.TheVariants as subject
use Rattle.pj_exprtypes.specs.TypeOf.{earlier, typed, typed_before}

pub record IsDeep (t : Tree) (left before : ℕ) (n : Node) : Type 0 where
  pub inside : n.0 < length t.nodes
  pub some : 0 < left
  pub few : left ≤ 2000001
  pub enough : typed t (earlier t before) left n ≡ typed_before t before n

abbrev pub Fits : Tree → ℕ → Subject → Type 0
Fits t left (subject.Var id) = id.0 < length t.nodes
Fits t left (subject.Written id declaration) = (id.0 < length t.nodes) × (declaration.0 < length t.nodes)
Fits t left (subject.Expression before n) = IsDeep t left before n
