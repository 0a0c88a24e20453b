-- Descriptors, JVMS 4.3: their syntax, how they are spelled, and what they stand for.
use Rattle.std.specs.Prelude.{◌&&◌, ◌++◌, Bool, true, false, ℕ, zero, suc, List, [], ◌∷◌, Option, Some, None, map}
use Rattle.std.specs.List.{list_all}
use Rattle.pj_names.specs.declared.ty.PrimitiveType.{PrimitiveType}
use Rattle.pj_names.specs.JavaType.{JavaType, Primitive, Void, Array, NoMore}
use Rattle.pj_signatures.specs.Names.{is_internal_name, dotted}
use Rattle.pj_signatures.specs.Signature.{letter, spelled_each, option_fits}
use Rattle.pj_signatures.specs.Types.{class_named, MethodTypes}

-- FieldType, JVMS 4.3.2
pub data FieldType : Type 0 where
  BaseType : PrimitiveType → FieldType
  ObjectType : List ℕ → FieldType
  ArrayType : FieldType → FieldType

-- MethodDescriptor, JVMS 4.3.3, whose result is a type, or none where it is `V`
pub record MethodDescriptor : Type 0 where
  pub parameters : List FieldType
  pub returned : Option FieldType

-- What spells a field's type, in front of what stands behind it.
abbrev pub spelled : FieldType → List ℕ → List ℕ
spelled (BaseType prim) behind = letter prim ∷ behind
spelled (ObjectType name) behind = 76 ∷ (name ++ 59 ∷ behind)
spelled (ArrayType component) behind = 91 ∷ spelled component behind

-- A good field type: its class's name is one in internal form, and it has at most so many dimensions.
abbrev pub fits : ℕ → FieldType → Bool
fits dimensions (BaseType prim) = true
fits dimensions (ObjectType name) = is_internal_name name
fits zero (ArrayType component) = false
fits (suc dimensions) (ArrayType component) = fits dimensions component

-- the type that it stands for
abbrev pub type_of : FieldType → JavaType
type_of (BaseType prim) = Primitive prim
type_of (ObjectType name) = class_named (dotted name) NoMore
type_of (ArrayType component) = Array (type_of component)

-- ReturnDescriptor
abbrev pub spelled_result : Option FieldType → List ℕ → List ℕ
spelled_result None behind = 86 ∷ behind
spelled_result (Some ty) behind = spelled ty behind

abbrev pub spelled_method : MethodDescriptor → List ℕ
spelled_method method = 40 ∷ spelled_each spelled method.parameters (41 ∷ spelled_result method.returned [])

abbrev pub method_fits : ℕ → MethodDescriptor → Bool
method_fits dimensions method = list_all (fits dimensions) method.parameters && option_fits (fits dimensions) method.returned

-- the type that a method returns, `void` where there is none
abbrev pub result_of : Option FieldType → JavaType
result_of None = Void
result_of (Some ty) = type_of ty

-- the types that a method's descriptor stands for
abbrev pub method_types : MethodDescriptor → MethodTypes
method_types method = record { params = []; arguments = map type_of method.parameters; returned = result_of method.returned }
