-- Scopes: the part of a file in which a declaration can be meant by its name (JLS 6.3).
use Rattle.std.specs.Prelude.{ℕ, ◌&&◌, Bool, Option, None, nat_le}
use Rattle.pj_tree.specs.Tree.{Tree, is_node_or_ancestor}
use Rattle.pj_tree.specs.declared.node.Node.{Node}
use Rattle.pj_declared.specs.declared.scope.Scope.{Scope}
use Rattle.pj_declared.specs.declared.scope.Scopes.{Scopes}

-- whether a place is in a scope: it is not before the node that opens the scope, and is the node within which the scope lies or one below
abbrev pub has_place : Tree → Node → Scope → Bool
has_place t place s = nat_le s.opened place.0 && is_node_or_ancestor t s.within place

-- ---- the forms of scopes

-- what is within a node, from a number on
abbrev pub scope_from : Node → ℕ → Node → Scope
scope_from declared opened within = record { declared = declared; within = within; opened = opened }

-- a node and all below
abbrev pub scope_of_all : Node → Node → Scope
scope_of_all declared within = scope_from declared within.0 within

-- a declaration has one scope, or two parts of one, or none
abbrev pub no_scopes : Scopes
no_scopes = record { first = None; second = None }

abbrev pub one_scope : Option Scope → Scopes
one_scope scope = record { first = scope; second = None }
