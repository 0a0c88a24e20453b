-- The first answers of a walk along supertypes.
use Rattle.std.specs.Prelude.{ℕ, zero, suc, List, [], ◌∷◌, Option, Some, None}
use Rattle.pj_names.specs.JavaType.{JavaType}
use Rattle.pj_names.specs.Asking.{Asking, Return, bind}
use Rattle.pj_types.specs.Supertypes.{Standing, step}

-- the answer that was given, where there is one, and then more
abbrev pub and_more : (Standing → Asking (List JavaType)) → Option JavaType → Standing → Asking (List JavaType)
and_more more None standing = Return []
and_more more (Some ty) standing = bind (more standing) (λ types. Return (ty ∷ types))

-- at most so many answers of a walk, one after the other
abbrev pub answers : ℕ → Standing → Asking (List JavaType)
answers zero standing = Return []
answers (suc n) standing = bind (step standing) (λ o. and_more (answers n) o.0 o.1)
