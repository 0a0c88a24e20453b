-- What the code has, as the definitions have it.
use Rattle.std.specs.Prelude.{Option, None, Some}
use Rattle.pj_names.specs.declared.ty.Ty.{Ty}
use Rattle.pj_names.specs.JavaType.{JavaType, java_type}

-- a type, where there is one
abbrev pub type_seen : Option Ty → Option JavaType
type_seen None = None
type_seen (Some ty) = Some (java_type ty)
