-- What the readers answer, as the definitions of reading have it.
use Rattle.std.specs.Prelude.{ℕ, List, ◌++◌, Option, Some, None}
use denote.Bor.{Bor}
use Rattle.pj_names.specs.declared.ty.PrimitiveType.{PrimitiveType}
use Rattle.pj_names.specs.declared.ty.Ty.{Ty}
use Rattle.pj_names.specs.JavaType.{JavaType, java_type, type_list, bound_types}
use Rattle.pj_signatures.specs.declared.types.Declared.{Declared}
use Rattle.pj_signatures.specs.declared.signature.ClassSig.{ClassSig}
use Rattle.pj_signatures.specs.declared.signature.MethodSig.{MethodSig}
use Rattle.pj_signatures.specs.Types.{ClassTypes, MethodTypes}

-- a text, if there is one
abbrev pub seen_rest : Option (Bor (List ℕ)) → Option (List ℕ)
seen_rest None = None
seen_rest (Some rest) = Some rest.now

-- a primitive type with what stands behind it
abbrev pub seen_primitive : Option (PrimitiveType × Bor (List ℕ)) → Option (PrimitiveType × List ℕ)
seen_primitive None = None
seen_primitive (Some found) = Some (found.0, found.1.now)

-- a text with what stands behind it
abbrev pub seen_text : Option (Bor (List ℕ) × Bor (List ℕ)) → Option (List ℕ × List ℕ)
seen_text None = None
seen_text (Some found) = Some (found.0.now, found.1.now)

-- the variables that are declared, with their bounds
abbrev pub declared_of : Declared → List (List ℕ × JavaType)
declared_of declared = bound_types declared.own.now ++ bound_types declared.around.now

-- a bound, or another type where there is none
abbrev pub seen_bound : JavaType → Option (Bor Ty) → JavaType
seen_bound other None = other
seen_bound other (Some bound) = java_type bound.now

-- a type with what stands behind it
abbrev pub seen_type : Option (Ty × Bor (List ℕ)) → Option (JavaType × List ℕ)
seen_type None = None
seen_type (Some found) = Some (java_type found.0, found.1.now)

-- types with what stands behind them
abbrev pub seen_types : Option (List Ty × Bor (List ℕ)) → Option (List JavaType × List ℕ)
seen_types None = None
seen_types (Some found) = Some (type_list found.0, found.1.now)

-- the name of a member class with its type arguments, and what stands behind them
abbrev pub seen_suffix : Option ((Bor (List ℕ) × List Ty) × Bor (List ℕ)) → Option ((List ℕ × List JavaType) × List ℕ)
seen_suffix None = None
seen_suffix (Some found) = Some ((found.0.0.now, type_list found.0.1), found.1.now)

-- the parameters and the result of a method, with what stands behind them
abbrev pub seen_method_types : Option ((List Ty × Ty) × Bor (List ℕ)) → Option ((List JavaType × JavaType) × List ℕ)
seen_method_types None = None
seen_method_types (Some found) = Some ((type_list found.0.0, java_type found.0.1), found.1.now)

-- a type, if there is one
abbrev pub seen_option : Option Ty → Option JavaType
seen_option None = None
seen_option (Some ty) = Some (java_type ty)

-- a bound that may be left out, with what stands behind it
abbrev pub seen_class_bound : Option (Option Ty × Bor (List ℕ)) → Option (Option JavaType × List ℕ)
seen_class_bound None = None
seen_class_bound (Some found) = Some (seen_option found.0, found.1.now)

-- a type parameter, with what stands behind it
abbrev pub seen_parameter : Option ((List ℕ × Ty) × Bor (List ℕ)) → Option ((List ℕ × JavaType) × List ℕ)
seen_parameter None = None
seen_parameter (Some found) = Some ((found.0.0, java_type found.0.1), found.1.now)

-- type parameters, with what stands behind them
abbrev pub seen_parameters : Option (List (List ℕ × Ty) × Bor (List ℕ)) → Option (List (List ℕ × JavaType) × List ℕ)
seen_parameters None = None
seen_parameters (Some found) = Some (bound_types found.0, found.1.now)

-- supertypes
abbrev pub seen_supertypes : Option (Ty × List Ty) → Option (JavaType × List JavaType)
seen_supertypes None = None
seen_supertypes (Some found) = Some (java_type found.0, type_list found.1)

-- what the signature of a class stands for
abbrev pub class_view : ClassSig → ClassTypes
class_view class = record { params = bound_types class.params; superclass = java_type class.superclass; interfaces = type_list class.interfaces }

abbrev pub seen_class : Option ClassSig → Option ClassTypes
seen_class None = None
seen_class (Some class) = Some (class_view class)

-- what the signature of a method stands for
abbrev pub method_view : MethodSig → MethodTypes
method_view method = record { params = bound_types method.params; arguments = type_list method.arguments; returned = java_type method.result }

abbrev pub seen_method : Option MethodSig → Option MethodTypes
seen_method None = None
seen_method (Some method) = Some (method_view method)

-- types, if there are some
abbrev pub seen_list : Option (List Ty) → Option (List JavaType)
seen_list None = None
seen_list (Some types) = Some (type_list types)

-- the parameters and the result of a method
abbrev pub seen_types_of_method : Option (List Ty × Option Ty) → Option (List JavaType × Option JavaType)
seen_types_of_method None = None
seen_types_of_method (Some found) = Some (type_list found.0, seen_option found.1)
