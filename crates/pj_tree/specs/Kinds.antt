-- Kinds of nodes, and of the nodes above.
use Rattle.std.specs.Prelude.{◌==◌, Bool, false, Option}
use Rattle.std.specs.Option.{option_and_then, option_map_or}
use denote.Enum.Declared.{tag_of}
use Rattle.pj_tree.specs.Tree.{Tree, kind_of, parent_of}
use Rattle.pj_tree.specs.contracts.kind.Kind as kinds
use Rattle.pj_tree.specs.declared.kind.Kind.{Kind}
use Rattle.pj_tree.specs.declared.node.Node.{Node}

-- kinds are the same where they stand at one place among the kinds
abbrev pub same_kind : Kind → Kind → Bool
same_kind kind other = tag_of kinds.the_type kind == tag_of kinds.the_type other

-- whether a node is of a kind
abbrev pub is_kind : Tree → Kind → Node → Bool
is_kind t kind n = option_map_or (λ k. same_kind k kind) (kind_of t n) false

-- the kind of the parent
abbrev pub kind_above : Tree → Node → Option Kind
kind_above t n = option_and_then (kind_of t) (parent_of t n)
