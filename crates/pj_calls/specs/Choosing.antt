-- The method that is chosen for a call among its candidates, by the types of its arguments (JLS 15.12.2).
use Rattle.std.specs.Prelude.{ℕ, Option, None, List, slice_get}
use Rattle.std.specs.Option.{option_map}
use Rattle.pj_names.specs.JavaType.{JavaType}
use Rattle.pj_names.specs.Asking.{Asking, Return, bind}
use Rattle.pj_types.specs.Members.{FoundMethod}
use Rattle.pj_overload.specs.declared.choice.Choice.{Choice}
use Rattle.pj_overload.specs.declared.choice.Choice.TheVariants as choices
use Rattle.pj_overload.specs.Choosing.{choose}
use Rattle.pj_calls.specs.Candidates.{Candidates}

-- The method, the type that it was looked for in, and the types of the arguments.
pub record Chosen : Type 0 where
  pub receiver : JavaType
  pub method : FoundMethod
  pub arguments : List JavaType

abbrev pub chosen_as : JavaType → List JavaType → FoundMethod → Chosen
chosen_as receiver arguments method = record { receiver = receiver; method = method; arguments = arguments }

-- where none is applicable, or several of which none is the most specific, none is chosen
abbrev pub chosen_by : Candidates → List JavaType → Choice → Option Chosen
chosen_by candidates arguments (choices.One number) = option_map (chosen_as candidates.receiver arguments) (slice_get candidates.methods number)
chosen_by candidates arguments choices.None = None
chosen_by candidates arguments choices.Tie = None

-- by the types of the arguments, of which those at some places are lambda expressions or method references
abbrev pub chosen_among : Candidates → List JavaType → List ℕ → Asking (Option Chosen)
chosen_among candidates arguments functions = bind (choose candidates.methods arguments functions) (λ choice. Return (chosen_by candidates arguments choice))
