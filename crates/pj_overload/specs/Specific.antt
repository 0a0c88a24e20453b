-- The most specific method, JLS 15.12.2.5.
use Rattle.std.specs.Prelude.{ℕ, ◌+◌, ◌==◌, Bool, true, List, length, zip, Option, Some, None, if◌then◌else◌}
use Rattle.pj_names.specs.JavaType.{JavaType}
use Rattle.pj_names.specs.Asking.{Asking, Return, bind, first_hit}
use Rattle.pj_types.specs.Subtyping.{is_under}
use Rattle.pj_overload.specs.declared.phase.Phase.{Phase}
use Rattle.pj_overload.specs.declared.phase.Phase.TheVariants.{Strict, Loose, VariableArity}
use Rattle.pj_overload.specs.declared.choice.Choice.{Choice}
use Rattle.pj_overload.specs.declared.choice.Choice.TheVariants.{One, Tie}
use Rattle.pj_overload.specs.Testing.{all_of}
use Rattle.pj_overload.specs.Candidates.{Candidate, variable_arity_types}

-- whether each type is under the one at its place, from left to right, up to the first that is not
abbrev pub all_under : List JavaType → List JavaType → Asking Bool
all_under lowers uppers = all_of (λ pair. is_under pair.0 pair.1) (zip lowers uppers)

-- Methods of variable arity are compared by as many types as there are arguments, and by one more where the other method has just
-- one parameter more than that.
abbrev pub compared : ℕ → Candidate → ℕ
compared count other = if length other.parameters == count + 1 then count + 1 else count

-- whether the variable arity parameter types of a candidate, so many of them, are each under those of another one
abbrev pub under_by_types : ℕ → Candidate → Candidate → Asking Bool
under_by_types count candidate other = all_under (variable_arity_types count candidate.parameters) (variable_arity_types count other.parameters)

-- whether the parameters of a candidate are each under those of another one
abbrev pub is_more_specific : Phase → ℕ → Candidate → Candidate → Asking Bool
is_more_specific Strict count candidate other = all_under candidate.parameters other.parameters
is_more_specific Loose count candidate other = all_under candidate.parameters other.parameters
is_more_specific VariableArity count candidate other = under_by_types (compared count other) candidate other

-- the same, of a candidate that may be the other one
abbrev pub is_itself_or_under : Phase → ℕ → Candidate → Candidate → Asking Bool
is_itself_or_under phase count candidate other =
    if other.number == candidate.number then Return true else is_more_specific phase count candidate other

-- whether a candidate is more specific than every other one, in their order, up to the first than which it is not
abbrev pub is_most_specific : Phase → ℕ → List Candidate → Candidate → Asking Bool
is_most_specific phase count candidates candidate = all_of (λ other. is_itself_or_under phase count candidate other) candidates

abbrev pub number_if : Candidate → Bool → Option ℕ
number_if candidate is_chosen = if is_chosen then Some candidate.number else None

-- its number, where it is the most specific one
abbrev pub most_specific_at : Phase → ℕ → List Candidate → Candidate → Asking (Option ℕ)
most_specific_at phase count candidates candidate =
    bind (is_most_specific phase count candidates candidate) (λ is_chosen. Return (number_if candidate is_chosen))

abbrev pub one_or_tie : Option ℕ → Choice
one_or_tie None = Tie
one_or_tie (Some number) = One number

-- the first candidate that is more specific than every other one
abbrev pub best_of : Phase → ℕ → List Candidate → Asking (Option ℕ)
best_of phase count candidates = first_hit (λ candidate. most_specific_at phase count candidates candidate) candidates

-- The choice among candidates that are applicable: that one, or else a tie.
abbrev pub most_specific : Phase → ℕ → List Candidate → Asking Choice
most_specific phase count candidates = bind (best_of phase count candidates) (λ best. Return (one_or_tie best))
