-- What the code answers, as the definitions have it.
use Rattle.std.specs.Prelude.{ℕ, ◌<◌, Option, None, Some}
use Rattle.pj_names.specs.declared.ty.Ty.{Ty}
use Rattle.pj_names.specs.JavaType.{JavaType, java_type}
use Rattle.pj_calls.specs.Seen.{candidates_view}
use Rattle.pj_exprtypes.specs.declared.found.Found.{Found}
use Rattle.pj_exprtypes.specs.declared.found.Found.TheVariants as code
use Rattle.pj_exprtypes.specs.Typing.{Typing, Known, OfVar, OfWritten, OfCall}

abbrev pub seen_typing : Found → Typing
seen_typing (code.Type ty) = Known (java_type ty)
seen_typing (code.Var id) = OfVar id
seen_typing (code.Written id declaration) = OfWritten id declaration
seen_typing (code.Call candidates) = OfCall (candidates_view candidates)

-- two types, where there are two
abbrev pub seen_pair : Option (Ty × Ty) → Option (JavaType × JavaType)
seen_pair None = None
seen_pair (Some pair) = Some (java_type pair.0, java_type pair.1)

-- a variable, and its declaration, is one of the nodes of the file
abbrev pub IsVarInside : ℕ → Found → Type 0
IsVarInside count (code.Type ty) = Unit {0}
IsVarInside count (code.Var id) = id.0 < count
IsVarInside count (code.Written id declaration) = (id.0 < count) × (declaration.0 < count)
IsVarInside count (code.Call candidates) = Unit {0}
