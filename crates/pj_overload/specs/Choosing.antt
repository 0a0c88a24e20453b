-- The choice of a method among candidates, JLS 15.12.2.
use Rattle.std.specs.Prelude.{ℕ, List, [], ◌∷◌, length, Option, Some, None}
use Rattle.pj_names.specs.JavaType.{JavaType}
use Rattle.pj_names.specs.Asking.{Asking, Return, bind, first_hit}
use Rattle.pj_types.specs.Members.{FoundMethod}
use Rattle.pj_overload.specs.declared.phase.Phase.{Phase}
use Rattle.pj_overload.specs.declared.phase.Phase.TheVariants.{Strict, Loose, VariableArity}
use Rattle.pj_overload.specs.declared.choice.Choice.{Choice}
use Rattle.pj_overload.specs.declared.choice.Choice.TheVariants as choices
use Rattle.pj_overload.specs.Passed.{Argument, arguments_of}
use Rattle.pj_overload.specs.Candidates.{Candidate, candidates_of}
use Rattle.pj_overload.specs.Phases.{applicable}
use Rattle.pj_overload.specs.Specific.{most_specific}

-- the choice among the applicable candidates of a phase, where there are some
abbrev pub choice_among : Phase → ℕ → List Candidate → Asking (Option Choice)
choice_among phase count [] = Return None
choice_among phase count (first ∷ more) = bind (most_specific phase count (first ∷ more)) (λ choice. Return (Some choice))

abbrev pub choice_in : Phase → List Argument → List Candidate → Asking (Option Choice)
choice_in phase arguments candidates =
    bind (applicable phase arguments candidates) (λ found. choice_among phase (length arguments) found)

abbrev pub phases : List Phase
phases = Strict ∷ (Loose ∷ (VariableArity ∷ []))

abbrev pub or_no_method : Option Choice → Choice
or_no_method None = choices.None
or_no_method (Some choice) = choice

-- The first phase in which a candidate is applicable ends the search.
abbrev pub choice_by_phases : List Argument → List Candidate → Asking Choice
choice_by_phases arguments candidates =
    bind (first_hit (λ phase. choice_in phase arguments candidates) phases) (λ found. Return (or_no_method found))

-- The choice among methods for a call with arguments of some types, of which those at some places are lambda expressions or method
-- references.
abbrev pub choose : List FoundMethod → List JavaType → List ℕ → Asking Choice
choose methods types functions = choice_by_phases (arguments_of functions types) (candidates_of methods)
