-- The children of a node.
use Rattle.std.specs.Prelude.{ℕ, Bool, Option, None, Some, is_some, List, [], ◌∷◌, find, count_by}
use Rattle.pj_tree.specs.Tree.{Tree, children_of}
use Rattle.pj_tree.specs.declared.kind.Kind.{Kind}
use Rattle.pj_tree.specs.declared.node.Node.{Node}
use Rattle.pj_tree.specs.Kinds.{is_kind}

abbrev pub first_in : List Node → Option Node
first_in [] = None
first_in (n ∷ ns) = Some n

abbrev pub second_in : List Node → Option Node
second_in [] = None
second_in (n ∷ ns) = first_in ns

abbrev pub first_child : Tree → Node → Option Node
first_child t n = first_in (children_of t n)

abbrev pub second_child : Tree → Node → Option Node
second_child t n = second_in (children_of t n)

-- the first child of a kind
abbrev pub child_of : Tree → Node → Kind → Option Node
child_of t n kind = find (is_kind t kind) (children_of t n)

abbrev pub has_child : Tree → Node → Kind → Bool
has_child t n kind = is_some (child_of t n kind)

-- how many children of a kind there are
abbrev pub kind_count : Tree → Node → Kind → ℕ
kind_count t n kind = count_by (is_kind t kind) (children_of t n)
