-- What a simple name means at a place, as far as the file tells: the nearest declaration of the name that is in scope there.
--
-- A declaration in the scope of another one of its name hides it (JLS 6.4.1). So of several that are in scope at a place the one
-- whose scope is opened last counts: what stands further in before what stands further out, and in a block the one that stands
-- nearest before the place. Of several that one node opens the first in the text counts.
use Rattle.std.specs.Prelude.{ℕ, ◌==◌, ◌&&◌, ◌||◌, Bool, Option, None, Some, if◌then◌else◌, List, [], ◌∷◌, filter, nat_eq, nat_lt}
use Rattle.std.specs.Cmp.Lexicographic.{pointwise}
use Rattle.std.specs.Option.{option_map}
use Rattle.pj_tree.specs.Tree.{Tree}
use Rattle.pj_tree.specs.declared.node.Node.{Node}
use Rattle.pj_declared.specs.declared.scope.Scope.{Scope}
use Rattle.pj_declared.specs.declared.nearest.Declared.{Declared}
use Rattle.pj_declared.specs.declared.imports.ImportSort.{ImportSort}
use Rattle.pj_declared.specs.Scope.{has_place}
use Rattle.pj_declared.specs.Imports.{imports_of}
use Rattle.pj_declared.specs.declared.named.Named.{Named}
use Rattle.pj_declared.specs.Rows.{variables_of, types_of}

-- a declaration, with the number of the node that opens its scope
abbrev pub declared_by : Scope → Declared
declared_by scope = record { node = scope.declared; opened = scope.opened }

-- whether one declaration is nearer than another one
abbrev pub is_nearer : Declared → Declared → Bool
is_nearer one other = nat_lt other.opened one.opened || (one.opened == other.opened && nat_lt one.node.0 other.node.0)

abbrev pub nearer : Declared → Option Declared → Declared
nearer one None = one
nearer one (Some other) = if is_nearer other one then other else one

abbrev pub nearer_of : Option Declared → Option Declared → Option Declared
nearer_of None known = known
nearer_of (Some one) known = Some (nearer one known)

-- the nearest one of all
abbrev pub nearest : List Named → Option Declared
nearest [] = None
nearest (row ∷ rows) = nearer_of (Some (declared_by row.scope)) (nearest rows)

-- whether a name is meant by the text at the place
abbrev pub is_meant : Tree → List ℕ → Node → Named → Bool
is_meant t text place row = pointwise nat_eq row.name text && has_place t place row.scope

abbrev pub meant_among : Tree → List Named → List ℕ → Node → Option Declared
meant_among t rows text place = nearest (filter (is_meant t text place) rows)

-- the variable of the name at the place, and none where the file declares none that is in scope there
abbrev pub variable_meant : Tree → List ℕ → Node → Option Declared
variable_meant t text place = meant_among t (variables_of t) text place

-- the class or type parameter of the name at the place
abbrev pub type_meant : Tree → List ℕ → Node → Option Declared
type_meant t text place = meant_among t (types_of t) text place

-- the import of one name by which the name is known in the file, and none where no import of the sort has it; the first in the text counts
abbrev pub single_import : Tree → ImportSort → List ℕ → Option Node
single_import t sort text = option_map (λ d. d.node) (meant_among t (imports_of t sort) text (record { 0 = 0 }))
