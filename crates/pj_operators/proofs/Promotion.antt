-- Binary numeric promotion: it is commutative, and of one type it is unary promotion. Operands that are not known.
use Rattle.std.proofs.Common.{◌≡◌, Bool, false, Option, Some, None, refl, ap, ◌∙◌}
use Rattle.std.specs.Prelude.{if◌then◌else◌, is_some}
use Rattle.std.proofs.Math.Bool.{or_comm, and_comm}
use Rattle.pj_names.specs.declared.ty.PrimitiveType.{PrimitiveType}
use Rattle.pj_names.specs.declared.ty.PrimitiveType.TheVariants as p
use Rattle.pj_names.specs.JavaType.{JavaType, Primitive, Void, Null, Class, Array, Variable, Unknown}
use Rattle.pj_names.specs.Asking.{Return}
use Rattle.pj_types.specs.Conversions.{as_primitive}
use Rattle.pj_types.specs.Subtyping.{is_same_primitive}
use Rattle.pj_operators.specs.Conditional.{conditional_type, told_or_upper}
use Rattle.pj_operators.specs.Literals.{string_type}
use Rattle.pj_types.specs.Conversions.{are_numeric, is_either, numeric, numeric_in, promoted, promoted_both, promoted_in, promoted_pair, wider}
use Rattle.pj_operators.specs.Operators.{bitwise_type, is_boolean, is_string, sum_type}

either-comm : (prim first second : PrimitiveType) → is_either prim first second ≡ is_either prim second first
either-comm prim first second = or_comm (is_same_primitive prim first) (is_same_primitive prim second)

wider-comm : (first second : PrimitiveType) → wider first second ≡ wider second first
wider-comm first second = λ i.
    if either-comm p.Double first second i then p.Double
    else if either-comm p.Float first second i then p.Float
    else if either-comm p.Long first second i then p.Long
    else p.Int

pair-comm : (first second : Option PrimitiveType) → promoted_pair first second ≡ promoted_pair second first
pair-comm None None = refl
pair-comm None (Some second) = refl
pair-comm (Some first) None = refl
pair-comm (Some first) (Some second) = λ i. Primitive (wider-comm first second i)

pub both-comm : (first second : JavaType) → promoted_both first second ≡ promoted_both second first
both-comm first second = pair-comm (numeric first) (numeric second)

pair-alone : (prim : Option PrimitiveType) → promoted_pair (numeric_in prim) (numeric_in prim) ≡ promoted_in (numeric_in prim)
pair-alone None = refl
pair-alone (Some p.Boolean) = refl
pair-alone (Some p.Byte) = refl
pair-alone (Some p.Short) = refl
pair-alone (Some p.Int) = refl
pair-alone (Some p.Long) = refl
pair-alone (Some p.Char) = refl
pair-alone (Some p.Float) = refl
pair-alone (Some p.Double) = refl

pub both-alone : (ty : JavaType) → promoted_both ty ty ≡ promoted ty
both-alone ty = pair-alone (as_primitive ty)

pub sum-comm : (first second : JavaType) → sum_type first second ≡ sum_type second first
sum-comm first second = λ i. if or_comm (is_string first) (is_string second) i then string_type else both-comm first second i

pub bits-comm : (first second : JavaType) → bitwise_type first second ≡ bitwise_type second first
bits-comm first second = λ i. if and_comm (is_boolean first) (is_boolean second) i then Primitive p.Boolean else both-comm first second i

pair-none : (first : Option PrimitiveType) → promoted_pair first None ≡ Unknown
pair-none None = refl
pair-none (Some first) = refl

-- where one has no known type
pub none-behind : (first : JavaType) → promoted_both first Unknown ≡ Unknown
none-behind first = pair-none (numeric first)

pub no-bits-behind : (first : JavaType) → bitwise_type first Unknown ≡ Unknown
no-bits-behind first = bits-comm first Unknown

pub no-sum : (second : JavaType) → is_string second ≡ false → sum_type Unknown second ≡ Unknown
no-sum second other = ap (λ (b : Bool). if b then string_type else promoted_both Unknown second) other

pub no-sum-behind : (first : JavaType) → is_string first ≡ false → sum_type first Unknown ≡ Unknown
no-sum-behind first other = sum-comm first Unknown ∙ no-sum first other

-- ---- conditional expressions

pub unknown-second : (third : JavaType) → conditional_type Unknown third ≡ Return Unknown
unknown-second (Primitive prim) = refl
unknown-second Void = refl
unknown-second Null = refl
unknown-second (Class name arguments) = refl
unknown-second (Array member) = refl
unknown-second (Variable name bound) = refl
unknown-second Unknown = refl

never-numeric : (ty : JavaType) → are_numeric ty Unknown ≡ false
never-numeric ty = and_comm (is_some (numeric ty)) false

by-numeric : (second : JavaType) (told : Bool → Option JavaType) → told false ≡ Some Unknown → told_or_upper second Unknown (told (are_numeric second Unknown)) ≡ Return Unknown
by-numeric second told is = ap (λ (b : Bool). told_or_upper second Unknown (told b)) (never-numeric second) ∙ ap (λ (o : Option JavaType). told_or_upper second Unknown o) is

pub unknown-third : (second : JavaType) → conditional_type second Unknown ≡ Return Unknown
unknown-third (Primitive prim) = by-numeric (Primitive prim) (λ b. if b then Some (promoted_both (Primitive prim) Unknown) else Some Unknown) refl
unknown-third Void = refl
unknown-third Null = refl
unknown-third (Class name arguments) = by-numeric (Class name arguments) (λ b. if b then Some (promoted_both (Class name arguments) Unknown) else Some Unknown) refl
unknown-third (Array member) = refl
unknown-third (Variable name bound) = refl
unknown-third Unknown = refl
