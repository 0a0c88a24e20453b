-- The scopes of classes and type parameters (JLS 6.3).
use Rattle.std.specs.Prelude.{◌+◌, Option}
use Rattle.std.specs.Option.{option_map, option_map_or, option_and_then}
use Rattle.pj_tree.specs.Tree.{Tree, parent_of}
use Rattle.pj_tree.specs.declared.node.Node.{Node}
use Rattle.pj_symbols.specs.Classes.{class_around, nesting_of}
use Rattle.pj_symbols.specs.declared.class.Nesting.{Nesting}
use Rattle.pj_symbols.specs.declared.class.Nesting.TheVariants.{TopLevel, Nested, Local, Anonymous}
use Rattle.pj_declared.specs.declared.scope.Scope.{Scope}
use Rattle.pj_declared.specs.declared.scope.Scopes.{Scopes}
use Rattle.pj_declared.specs.Scope.{scope_from, scope_of_all, no_scopes, one_scope}
use Rattle.pj_declared.specs.Bodies.{member_scopes}

-- A type parameter of a class, a method or a constructor (JLS 8.1.2, 8.4.4): the whole declaration but its modifiers, so from the list of the type parameters on.
abbrev pub listed_scope : Tree → Node → Node → Option Scope
listed_scope t parameter parameters = option_map (scope_from parameter parameters.0) (parent_of t parameters)

abbrev pub type_parameter_scope : Tree → Node → Option Scope
type_parameter_scope t parameter = option_and_then (listed_scope t parameter) (parent_of t parameter)

-- a class of the file (JLS 7.6): the whole file
abbrev pub top_level_scope : Tree → Node → Option Scope
top_level_scope t class = option_map (scope_of_all class) (parent_of t class)

-- a local class (JLS 14.3): the rest of the block or branch that has its statement, its own declaration included
abbrev pub local_class_scope : Tree → Node → Option Scope
local_class_scope t class = option_map (scope_from class (class.0 + 1)) (option_and_then (parent_of t) (parent_of t class))

-- where the declaration of a class is in scope, by where it stands; a member class as the members of the class around are (JLS 8.5)
abbrev pub declared_scopes_by : Tree → Node → Nesting → Scopes
declared_scopes_by t class TopLevel = one_scope (top_level_scope t class)
declared_scopes_by t class Local = one_scope (local_class_scope t class)
declared_scopes_by t class Nested = option_map_or (member_scopes t class) (class_around t class) no_scopes
declared_scopes_by t class Anonymous = no_scopes

abbrev pub declared_scopes : Tree → Node → Scopes
declared_scopes t class = declared_scopes_by t class (nesting_of t class)

-- and a class is also in scope in its own body, as its members are
abbrev pub own_scopes : Tree → Node → Scopes
own_scopes t class = member_scopes t class class
