-- The type of a conditional expression by those of its second and third operands (JLS 15.25).
use Rattle.std.specs.Prelude.{Bool, ◌||◌, Option, None, Some, if◌then◌else◌}
use Rattle.pj_names.specs.JavaType.{JavaType, Primitive, Void, Null, Class, Array, Variable, Unknown}
use Rattle.pj_names.specs.Asking.{Asking, Return, bind}
use Rattle.pj_types.specs.Subtyping.{is_under, is_unknown}
use Rattle.pj_types.specs.Conversions.{are_numeric, promoted_both}
use Rattle.pj_operators.specs.Same.{same_type}

-- ---- as far as it is told without asking for supertypes

-- where a type is that of `null`, the other one
abbrev pub if_null : JavaType → JavaType → Option JavaType
if_null Null other = Some other
if_null (Primitive prim) other = None
if_null Void other = None
if_null (Class name arguments) other = None
if_null (Array member) other = None
if_null (Variable name bound) other = None
if_null Unknown other = None

-- where one of two types is not known, neither is the whole
abbrev pub if_unknown : JavaType → JavaType → Option JavaType
if_unknown second third = if is_unknown second || is_unknown third then Some Unknown else None

abbrev pub or_else : Option JavaType → Option JavaType → Option JavaType
or_else None other = other
or_else (Some ty) other = Some ty

-- The first that fits: both the same; both numeric, where it is the promoted type; one of them the type of `null`, where it is the other; one that is not known.
abbrev pub told_type : JavaType → JavaType → Option JavaType
told_type second third =
    if same_type second third then Some second
    else if are_numeric second third then Some (promoted_both second third)
    else or_else (or_else (if_null second third) (if_null third second)) (if_unknown second third)

-- ---- The upper one of two types, where one is under the other. Whether the second operand's is under the third's is tested first. Subtyping is by erasure, so two
-- types of one class are under one another: of `G<D>` and `G<E>` it is the third operand's. (JLS 15.25.3: their least upper bound, `G` of a wildcard.)

abbrev pub second_or_unknown : JavaType → Bool → JavaType
second_or_unknown second is_upper = if is_upper then second else Unknown

abbrev pub third_or_second : JavaType → JavaType → Bool → Asking JavaType
third_or_second second third is_upper =
    if is_upper then Return third else bind (is_under third second) (λ is. Return (second_or_unknown second is))

abbrev pub upper_type : JavaType → JavaType → Asking JavaType
upper_type second third = bind (is_under second third) (λ is. third_or_second second third is)

-- ---- the type

abbrev pub told_or_upper : JavaType → JavaType → Option JavaType → Asking JavaType
told_or_upper second third None = upper_type second third
told_or_upper second third (Some ty) = Return ty

abbrev pub conditional_type : JavaType → JavaType → Asking JavaType
conditional_type second third = told_or_upper second third (told_type second third)
