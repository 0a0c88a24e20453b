-- The three phases in which applicable methods are looked for, JLS 15.12.2.
use Rattle.std.specs.Prelude.{ℕ, ◌-◌, ◌==◌, Bool, true, false, ◌&&◌, List, length, nat_le, zip, if◌then◌else◌}
use Rattle.pj_names.specs.JavaType.{JavaType}
use Rattle.pj_names.specs.Asking.{Asking, Return}
use Rattle.pj_types.specs.Subtyping.{is_unknown}
use Rattle.pj_overload.specs.declared.phase.Phase.{Phase}
use Rattle.pj_overload.specs.declared.phase.Phase.TheVariants.{Strict, Loose, VariableArity}
use Rattle.pj_overload.specs.Testing.{all_of, filtered}
use Rattle.pj_overload.specs.Passed.{Argument, Function, Typed}
use Rattle.pj_overload.specs.Candidates.{Candidate, variable_arity_types}
use Rattle.pj_overload.specs.Conversions.{fits_strictly, fits_loosely, is_class}

-- By strict invocation, JLS 15.12.2.2, without boxing and unboxing; by loose invocation, JLS 15.12.2.3; and by variable arity
-- invocation, JLS 15.12.2.4, which is loose.
abbrev pub type_fits : Phase → JavaType → JavaType → Asking Bool
type_fits Strict argument parameter = fits_strictly argument parameter
type_fits Loose argument parameter = fits_loosely argument parameter
type_fits VariableArity argument parameter = fits_loosely argument parameter

-- The type that is not known fits everything.
abbrev pub known_fits : Phase → JavaType → JavaType → Asking Bool
known_fits phase argument parameter = if is_unknown argument then Return true else type_fits phase argument parameter

-- A lambda expression and a method reference fit each class and interface.
abbrev pub fits : Phase → Argument → JavaType → Asking Bool
fits phase Function parameter = Return (is_class parameter)
fits phase (Typed argument) parameter = known_fits phase argument parameter

-- whether a candidate takes so many arguments, JLS 15.12.2.1: as many as it has parameters; as one of variable arity, at least as
-- many as it has before the last one
abbrev pub takes : Phase → ℕ → Candidate → Bool
takes Strict count candidate = length candidate.parameters == count
takes Loose count candidate = length candidate.parameters == count
takes VariableArity count candidate = candidate.has_variable_arity && nat_le (length candidate.parameters - 1) count

-- the types of the parameters for so many arguments
abbrev pub parameters_for : Phase → ℕ → Candidate → List JavaType
parameters_for Strict count candidate = candidate.parameters
parameters_for Loose count candidate = candidate.parameters
parameters_for VariableArity count candidate = variable_arity_types count candidate.parameters

-- whether each argument fits its parameter, from left to right, up to the first that does not fit
abbrev pub all_fit : Phase → List Argument → List JavaType → Asking Bool
all_fit phase arguments parameters = all_of (λ pair. fits phase pair.0 pair.1) (zip arguments parameters)

-- the same of a candidate, with its parameters for so many arguments
abbrev pub arguments_fit : Phase → List Argument → Candidate → Asking Bool
arguments_fit phase arguments candidate = all_fit phase arguments (parameters_for phase (length arguments) candidate)

-- Whether a candidate is applicable. Where it does not take so many arguments nothing is asked.
abbrev pub is_applicable : Phase → List Argument → Candidate → Asking Bool
is_applicable phase arguments candidate =
    if takes phase (length arguments) candidate then arguments_fit phase arguments candidate else Return false

-- the candidates that are applicable in a phase, in their order
abbrev pub applicable : Phase → List Argument → List Candidate → Asking (List Candidate)
applicable phase arguments candidates = filtered (λ candidate. is_applicable phase arguments candidate) candidates
