-- What the code answers, as the definitions have it.
use Rattle.std.specs.Prelude.{◌<◌, ℕ, Option, Some, None}
use Rattle.pj_types.specs.Members.{field_view}
use Rattle.pj_scopes.specs.declared.variable.Variable.{Variable}
use Rattle.pj_scopes.specs.declared.variable.Variable.TheVariants as code
use Rattle.pj_scopes.specs.VariableName.{Meant, DeclaredAt, Inherited}

abbrev pub variable_view : Variable → Meant
variable_view (code.Declared node) = DeclaredAt node
variable_view (code.Inherited field) = Inherited (field_view field)

-- a variable, where there is one
abbrev pub seen_variable : Option Variable → Option Meant
seen_variable None = None
seen_variable (Some variable) = Some (variable_view variable)

-- a variable of the file is one of its nodes
abbrev pub IsInside : ℕ → Variable → Type 0
IsInside count (code.Declared node) = node.0 < count
IsInside count (code.Inherited field) = Unit {0}
