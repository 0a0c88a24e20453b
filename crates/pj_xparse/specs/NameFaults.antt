-- The first fault of what is named: a function that there is not, or not with so many arguments, a variable that nothing binds,
-- or an argument that is not written as the function wants it.
use Rattle.std.specs.Prelude.{ℕ, Bool, true, false, ◌||◌, List, [], ◌∷◌, drop, Option, Some, None, if◌then◌else◌}
use Rattle.pj_xexpressions.specs.Among.{is_among}
use Rattle.pj_xexpressions.specs.Expressions.{Scope, Written, with_variable, is_pattern, are_flags, is_replacement}
use Rattle.pj_xexpressions.specs.Functions.{takes, pmd_takes}
use Rattle.pj_xexpressions.specs.declared.name.Callee.{Callee}
use Rattle.pj_xexpressions.specs.declared.name.Callee.TheVariants as callee
use Rattle.pj_xexpressions.specs.Names.{callee_of}
use Rattle.pj_xreadings.specs.declared.role.Role.{Role}
use Rattle.pj_xreadings.specs.declared.role.Role.TheVariants as role
use Rattle.pj_xreadings.specs.Mentions as mention
use Rattle.pj_xreadings.specs.Mentions.{Mention}

-- Offsets are bytes of the text.
pub data Fault : Type 0 where
  -- an argument is no pattern, no replacement or no flags; the offset is that of its first token
  Form : ℕ → Fault
  -- there is no function of the name with so many arguments; the offset is that of the name
  Function : List ℕ → ℕ → Fault
  -- nothing binds the variable; the offset is that of its `$`
  Variable : List ℕ → ℕ → Fault

-- whether there is a function, and it takes so many arguments
abbrev pub callee_takes : Option Callee → ℕ → Bool
callee_takes None count = false
callee_takes (Some (callee.XPath function)) count = takes function count
callee_takes (Some (callee.Pmd function)) count = pmd_takes function count

-- there is a function of the name that takes so many arguments
abbrev pub is_function : List ℕ → ℕ → Bool
is_function name count = callee_takes (callee_of name) count

-- the variable is bound around the place, or the rule set gives it
abbrev pub is_bound : List ℕ → Scope → Bool
is_bound name scope = is_among name scope.bound || is_among name scope.given

-- the argument is written as its role wants it
abbrev pub fits_role : Role → Scope → Written → Bool
fits_role role.Any scope written = true
fits_role role.Pattern scope written = is_pattern scope written
fits_role role.Replacement scope written = is_replacement written
fits_role role.Flags scope written = are_flags written

-- no fault, if all is good
abbrev pub unless : Bool → Fault → Option Fault
unless good fault = if good then None else Some fault

-- the fault of one mention, where these variables are there
abbrev pub fault_in : Scope → Mention → Option Fault
fault_in scope (mention.Variable name from) = unless (is_bound name scope) (Variable name from)
fault_in scope (mention.Call name count from) = unless (is_function name count) (Function name from)
fault_in scope (mention.Argument role written from) = unless (fits_role role scope written) (Form from)
fault_in scope (mention.Binds name) = None
fault_in scope (mention.Ends count) = None

-- the variables that are there behind a mention
abbrev pub scope_behind : Scope → Mention → Scope
scope_behind scope (mention.Binds name) = with_variable name scope
scope_behind scope (mention.Ends count) = record { given = scope.given; bound = drop count scope.bound }
scope_behind scope _ = scope

-- the first of two faults
abbrev pub earlier : Option Fault → Option Fault → Option Fault
earlier None later = later
earlier (Some fault) later = Some fault

-- the first fault, where these variables are there at the beginning
abbrev pub first_fault_from : Scope → List Mention → Option Fault
first_fault_from scope [] = None
first_fault_from scope (m ∷ ms) = earlier (fault_in scope m) (first_fault_from (scope_behind scope m) ms)

-- the first fault of a whole text, where the rule set gives these variables
abbrev pub first_fault : List (List ℕ) → List Mention → Option Fault
first_fault variables mentions = first_fault_from (record { given = variables; bound = [] }) mentions
