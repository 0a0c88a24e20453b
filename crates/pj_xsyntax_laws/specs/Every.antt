-- Every fault of what is named, and where it stands.
use Rattle.std.specs.Prelude.{◌≡◌, ℕ, ◌⊎◌, List, [], ◌∷◌, Some}
use Rattle.pj_xexpressions.specs.Expressions.{Scope}
use Rattle.pj_xreadings.specs.Mentions.{Mention}
use Rattle.pj_xparse.specs.NameFaults.{Fault, Form, Function, Variable, fault_in, scope_behind}
use Rattle.pj_xsyntax_laws.specs.Order.{Position}

-- where the fault stands: a form has the rank of an argument, a function or a variable that of a name
abbrev pub position_of : Fault → Position
position_of (Form from) = record { from = from; rank = 0 }
position_of (Function name from) = record { from = from; rank = 1 }
position_of (Variable name from) = record { from = from; rank = 1 }

-- one of the mentions has the fault, where these variables are there before the first of them
abbrev pub HasFault : Scope → List Mention → Fault → Type 0
HasFault scope [] fault = ⊥
HasFault scope (m ∷ ms) fault = (fault_in scope m ≡ Some fault) ⊎ HasFault (scope_behind scope m) ms fault

-- the variables that are there at the beginning of a text: those that the rule set gives
abbrev pub given : List (List ℕ) → Scope
given variables = record { given = variables; bound = [] }
