-- What the code keeps, as the definitions have it.
use Rattle.std.specs.Prelude.{List, map, Option, Some, None}
use Rattle.pj_names.specs.declared.ty.Ty.{Ty}
use Rattle.pj_names.specs.JavaType.{JavaType, java_type, type_list}
use Rattle.pj_overload.specs.declared.candidates.Candidate as held
use Rattle.pj_overload.specs.declared.passed.Passed.{Passed}
use Rattle.pj_overload.specs.declared.passed.Passed.TheVariants as passed
use Rattle.pj_overload.specs.Candidates.{Candidate}
use Rattle.pj_overload.specs.Passed.{Argument, Function, Typed}

-- an argument
abbrev pub argument_seen : Passed → Argument
argument_seen passed.Function = Function
argument_seen (passed.Typed ty) = Typed (java_type ty)

abbrev pub arguments_seen : List Passed → List Argument
arguments_seen arguments = map argument_seen arguments

-- a candidate
abbrev pub candidate_seen : held.Candidate → Candidate
candidate_seen candidate =
    record { number = candidate.number; parameters = type_list candidate.parameters; has_variable_arity = candidate.has_variable_arity }

abbrev pub candidates_seen : List held.Candidate → List Candidate
candidates_seen candidates = map candidate_seen candidates

-- a type, where there is one
abbrev pub type_seen : Option Ty → Option JavaType
type_seen None = None
type_seen (Some ty) = Some (java_type ty)
