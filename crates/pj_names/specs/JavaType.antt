-- Types of the Java language, as contracts compare them. A `Ty` keeps its parts in boxes, and two boxes differ by
-- their places in memory; of these no contract speaks.
use Rattle.std.specs.Prelude.{ℕ, List, [], ◌∷◌, map}
use Rattle.pj_names.specs.declared.ty.PrimitiveType.{PrimitiveType}
use Rattle.pj_names.specs.declared.ty.Ty.{Ty}
use Rattle.pj_names.specs.declared.ty.Ty.TheVariants as ty
use Rattle.pj_names.specs.declared.ty.Types.{Types}
use Rattle.pj_names.specs.declared.ty.Types.TheVariants as types

mutual
  -- a type, JLS 4; `Unknown` where none is known
  pub data JavaType : Type 0 where
    Primitive : PrimitiveType → JavaType
    Void : JavaType
    Null : JavaType
    Class : List ℕ → Arguments → JavaType
    Array : JavaType → JavaType
    Variable : List ℕ → JavaType → JavaType
    Unknown : JavaType

  -- type arguments, in their order
  pub data Arguments : Type 0 where
    NoMore : Arguments
    Argument : JavaType → Arguments → Arguments

abbrev mutual
  -- the type that a `Ty` stands for
  pub java_type : Ty → JavaType
  java_type (ty.Prim p) = Primitive p
  java_type ty.Void = Void
  java_type ty.Null = Null
  java_type (ty.Class name arguments) = Class name (java_types arguments)
  java_type (ty.Array' place member) = Array (java_type member)
  java_type (ty.Var' name place bound) = Variable name (java_type bound)
  java_type ty.Unknown = Unknown

  -- the arguments that `Types` stand for
  pub java_types : Types → Arguments
  java_types types.End = NoMore
  java_types (types.More' place first place' rest) = Argument (java_type first) (java_types rest)

-- type arguments of a list
abbrev pub arguments_of : List JavaType → Arguments
arguments_of [] = NoMore
arguments_of (first ∷ rest) = Argument first (arguments_of rest)

-- the types that a list stands for
abbrev pub type_list : List Ty → List JavaType
type_list types = map java_type types

-- the variables of a list, each with the type that it stands for
abbrev pub bound_types : List (List ℕ × Ty) → List (List ℕ × JavaType)
bound_types bindings = map (λ binding. (binding.0, java_type binding.1)) bindings
