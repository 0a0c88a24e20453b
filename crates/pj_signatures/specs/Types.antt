-- What signatures stand for.
use Rattle.std.specs.Prelude.{◌++◌, ℕ, List, [], ◌∷◌, Option, Some, None, map, codes, if◌then◌else◌, nat_eq}
use Rattle.std.specs.Cmp.Lexicographic.{pointwise}
use Rattle.pj_names.specs.declared.ty.PrimitiveType.{PrimitiveType}
pub use Rattle.pj_names.specs.JavaType.{arguments_of}
use Rattle.pj_names.specs.JavaType.{JavaType, Primitive, Void, Class, Array, Variable, Unknown, Arguments, NoMore}
use Rattle.pj_signatures.specs.Names.{dotted}
use Rattle.pj_signatures.specs.Signature as syntax
use Rattle.pj_signatures.specs.Signature.{TypeSignature, BaseType, ClassType, TypeVariable, ArrayType, TypeArguments, NoArguments, TypeArgument, Anything, Exactly, Extends, Super, Suffixes, NoSuffix, Suffix, TypeParameter, ClassSignature, MethodSignature}

-- What each construct of a signature is made into: values A for types, B for type arguments, S for what is known of a
-- class type so far, P for type parameters.
pub record Making (A B S P : Type 0) : Type 0 where
  pub primitive : PrimitiveType → A
  pub variable : List ℕ → A
  pub array : A → A
  -- a class type: its path with type arguments, then each member class with its own, and the end
  pub outer : List ℕ → List B → S
  pub member : S → List ℕ → List B → S
  pub whole : S → A
  -- type arguments
  pub anything : B
  pub exactly : A → B
  pub extends : A → B
  pub above : A → B
  -- a type parameter with its bounds
  pub parameter : List ℕ → Option A → List A → P

module _ {A B S P : Type 0} (make : Making A B S P) where
  -- what a signature is made into, from the inside out
  abbrev mutual
    pub made : TypeSignature → A
    made (BaseType prim) = make.primitive prim
    made (ClassType path arguments suffixes) = make.whole (made_suffixes suffixes (make.outer path (made_arguments arguments)))
    made (TypeVariable name) = make.variable name
    made (ArrayType member) = make.array (made member)

    pub made_arguments : TypeArguments → List B
    made_arguments NoArguments = []
    made_arguments (syntax.Argument first rest) = made_argument first ∷ made_arguments rest

    pub made_argument : TypeArgument → B
    made_argument Anything = make.anything
    made_argument (Exactly ty) = make.exactly (made ty)
    made_argument (Extends ty) = make.extends (made ty)
    made_argument (Super ty) = make.above (made ty)

    pub made_suffixes : Suffixes → S → S
    made_suffixes NoSuffix so_far = so_far
    made_suffixes (Suffix name arguments rest) so_far = made_suffixes rest (make.member so_far name (made_arguments arguments))

  abbrev pub made_option : Option TypeSignature → Option A
  made_option None = None
  made_option (Some ty) = Some (made ty)

  abbrev pub made_parameter : TypeParameter → P
  made_parameter parameter = make.parameter parameter.name (made_option parameter.class_bound) (map made parameter.interface_bounds)

-- The class of a name with type arguments. The class `?` spells the type that is not known.
abbrev pub class_named : List ℕ → Arguments → JavaType
class_named name arguments = if pointwise nat_eq name (codes "?") then Unknown else Class name arguments

-- `java.lang.Object`
abbrev pub object : JavaType
object = Class (codes "java.lang.Object") NoMore

-- the type in the first pair of a name, or another one where there is none
abbrev pub bound_or : JavaType → List (List ℕ × JavaType) → List ℕ → JavaType
bound_or other [] name = other
bound_or other (pair ∷ rest) name = if pointwise nat_eq pair.0 name then pair.1 else bound_or other rest name

-- The bound of a type variable: the one that is declared, and else `java.lang.Object`.
abbrev pub bound_in : List (List ℕ × JavaType) → List ℕ → JavaType
bound_in declared name = bound_or object declared name

-- the first bound of a type parameter that has one, and else `java.lang.Object`
abbrev pub first_bound : Option JavaType → List JavaType → JavaType
first_bound (Some bound) more = bound
first_bound None [] = object
first_bound None (bound ∷ more) = bound

-- Types, where some type variables are declared with their bounds. A member class has its name behind that of the
-- class around and `$`, JLS 13.1, and the type arguments of its last part alone. A wildcard is its upper bound.
abbrev pub types : List (List ℕ × JavaType) → Making JavaType JavaType (List ℕ × List JavaType) (List ℕ × JavaType)
types declared = record {
  primitive = Primitive;
  variable = λ name. Variable name (bound_in declared name);
  array = Array;
  outer = λ path arguments. (dotted path, arguments);
  member = λ so_far name arguments. (so_far.0 ++ 36 ∷ name, arguments);
  whole = λ so_far. class_named so_far.0 (arguments_of so_far.1);
  anything = object;
  exactly = λ ty. ty;
  extends = λ ty. ty;
  above = λ ty. object;
  parameter = λ name bound more. (name, first_bound bound more);
}

-- the type that a signature stands for, where some type variables are declared
abbrev pub type_of : List (List ℕ × JavaType) → TypeSignature → JavaType
type_of declared = made (types declared)

-- Type parameters with their first bounds. In a bound no variable is declared.
abbrev pub parameters_of : List TypeParameter → List (List ℕ × JavaType)
parameters_of parameters = map (made_parameter (types [])) parameters

-- what the signature of a class stands for
pub record ClassTypes : Type 0 where
  pub params : List (List ℕ × JavaType)
  pub superclass : JavaType
  pub interfaces : List JavaType

-- what the signature of a method stands for: what it throws is dropped
pub record MethodTypes : Type 0 where
  pub params : List (List ℕ × JavaType)
  pub arguments : List JavaType
  pub returned : JavaType

-- A class's own type parameters are declared in its supertypes.
abbrev pub class_types : ClassSignature → ClassTypes
class_types class =
    let params = parameters_of class.parameters in
    record { params = params; superclass = type_of params class.superclass; interfaces = map (type_of params) class.interfaces }

-- the type that a method returns, `void` where there is none
abbrev pub result_of : List (List ℕ × JavaType) → Option TypeSignature → JavaType
result_of declared None = Void
result_of declared (Some ty) = type_of declared ty

-- A method's own type parameters are declared in its types, before those that are declared around it.
abbrev pub method_types : List (List ℕ × JavaType) → MethodSignature → MethodTypes
method_types around method =
    let params = parameters_of method.parameters in
    let declared = params ++ around in
    record { params = params; arguments = map (type_of declared) method.arguments; returned = result_of declared method.returned }
