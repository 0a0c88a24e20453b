-- A value is there where the value that it is seen as is there.
use Rattle.std.proofs.Common.{◌≡◌, Option, Some, None, refl, ap, ◌∙◌}
use Rattle.std.specs.Prelude.{is_some}
use Rattle.pj_names.specs.declared.ty.Ty.{Ty}
use Rattle.pj_names.specs.JavaType.{JavaType}
use Rattle.pj_signatures.specs.declared.signature.ClassSig.{ClassSig}
use Rattle.pj_signatures.specs.declared.signature.MethodSig.{MethodSig}
use Rattle.pj_signatures.specs.Types.{ClassTypes, MethodTypes}
use Rattle.pj_signatures.specs.Seen.{seen_option, seen_class, seen_method}

ty_there : (found : Option Ty) → is_some found ≡ is_some (seen_option found)
ty_there None = refl
ty_there (Some ty) = refl

class_there : (found : Option ClassSig) → is_some found ≡ is_some (seen_class found)
class_there None = refl
class_there (Some class) = refl

method_there : (found : Option MethodSig) → is_some found ≡ is_some (seen_method found)
method_there None = refl
method_there (Some method) = refl

pub ty_is : (found : Option Ty) (read : Option JavaType) → seen_option found ≡ read → is_some found ≡ is_some read
ty_is found read e = ty_there found ∙ ap (λ (o : Option JavaType). is_some o) e

pub class_is : (found : Option ClassSig) (read : Option ClassTypes) → seen_class found ≡ read → is_some found ≡ is_some read
class_is found read e = class_there found ∙ ap (λ (o : Option ClassTypes). is_some o) e

pub method_is : (found : Option MethodSig) (read : Option MethodTypes) → seen_method found ≡ read → is_some found ≡ is_some read
method_is found read e = method_there found ∙ ap (λ (o : Option MethodTypes). is_some o) e
