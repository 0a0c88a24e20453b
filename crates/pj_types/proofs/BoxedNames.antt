-- The classes of boxing have names of classes.
use Rattle.std.specs.Prelude.{◌≡◌, true, refl}
use Rattle.pj_names.specs.declared.ty.PrimitiveType.{PrimitiveType}
use Rattle.pj_names.specs.declared.ty.PrimitiveType.TheVariants.{Boolean, Byte, Short, Int, Long, Char, Float, Double}
use Rattle.pj_names.specs.ClassName.{is_class_name}
use Rattle.pj_types.specs.Conversions.{boxed_name}

pub boxed_is_name : (prim : PrimitiveType) → is_class_name (boxed_name prim) ≡ true
boxed_is_name Boolean = refl
boxed_is_name Byte = refl
boxed_is_name Short = refl
boxed_is_name Int = refl
boxed_is_name Long = refl
boxed_is_name Char = refl
boxed_is_name Float = refl
boxed_is_name Double = refl
