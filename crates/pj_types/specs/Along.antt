-- The first hit along a list of supertypes.
use Rattle.std.specs.Prelude.{Option}
use Rattle.pj_names.specs.ClassName.{Name}
use Rattle.pj_names.specs.JavaType.{JavaType}
use Rattle.pj_names.specs.Asking.{Asking, Return, bind}
use Rattle.pj_types.specs.Supertypes.{search}

-- the first hit of a test along the list of supertypes of a class
abbrev pub first_along : {B : Type 0} → (JavaType → Asking (Option B)) → Name → Asking (Option B)
first_along test class = bind (search test class) (λ outcome. Return outcome.0)
