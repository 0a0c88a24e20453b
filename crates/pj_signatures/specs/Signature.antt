-- Signatures, JVMS 4.7.9.1: their syntax, how they are spelled, and their bounds.
use Rattle.std.specs.Prelude.{◌&&◌, ◌++◌, Bool, true, false, ℕ, zero, suc, List, [], ◌∷◌, Option, Some, None, nat_le}
use Rattle.std.specs.List.{list_all}
use Rattle.pj_names.specs.declared.ty.PrimitiveType.{PrimitiveType}
use Rattle.pj_names.specs.declared.ty.PrimitiveType.TheVariants.{Boolean, Byte, Short, Int, Long, Char, Float, Double}
use Rattle.pj_signatures.specs.Names.{is_identifier, is_path}

mutual
  -- JavaTypeSignature. A ClassTypeSignature has a path, which is the package and the class's name with solidi
  -- between, its type arguments, and what follows a dot: the names of member classes with theirs.
  pub data TypeSignature : Type 0 where
    BaseType : PrimitiveType → TypeSignature
    ClassType : List ℕ → TypeArguments → Suffixes → TypeSignature
    TypeVariable : List ℕ → TypeSignature
    ArrayType : TypeSignature → TypeSignature

  -- TypeArguments: none, or a list in angle brackets
  pub data TypeArguments : Type 0 where
    NoArguments : TypeArguments
    Argument : TypeArgument → TypeArguments → TypeArguments

  -- TypeArgument: `*`, or a reference type without a wildcard, with `+` or with `-`
  pub data TypeArgument : Type 0 where
    Anything : TypeArgument
    Exactly : TypeSignature → TypeArgument
    Extends : TypeSignature → TypeArgument
    Super : TypeSignature → TypeArgument

  -- ClassTypeSignatureSuffix, as many as there are
  pub data Suffixes : Type 0 where
    NoSuffix : Suffixes
    Suffix : List ℕ → TypeArguments → Suffixes → Suffixes

-- BaseType
abbrev pub letter : PrimitiveType → ℕ
letter Byte = 66
letter Char = 67
letter Double = 68
letter Float = 70
letter Int = 73
letter Long = 74
letter Short = 83
letter Boolean = 90

-- What spells a signature, in front of what stands behind it.
abbrev mutual
  pub spelled : TypeSignature → List ℕ → List ℕ
  spelled (BaseType prim) behind = letter prim ∷ behind
  spelled (ClassType path arguments suffixes) behind =
      76 ∷ (path ++ spelled_arguments arguments (spelled_suffixes suffixes (59 ∷ behind)))
  spelled (TypeVariable name) behind = 84 ∷ (name ++ 59 ∷ behind)
  spelled (ArrayType member) behind = 91 ∷ spelled member behind

  pub spelled_arguments : TypeArguments → List ℕ → List ℕ
  spelled_arguments NoArguments behind = behind
  spelled_arguments (Argument first rest) behind = 60 ∷ spelled_argument first (spelled_further rest (62 ∷ behind))

  pub spelled_further : TypeArguments → List ℕ → List ℕ
  spelled_further NoArguments behind = behind
  spelled_further (Argument first rest) behind = spelled_argument first (spelled_further rest behind)

  pub spelled_argument : TypeArgument → List ℕ → List ℕ
  spelled_argument Anything behind = 42 ∷ behind
  spelled_argument (Exactly ty) behind = spelled ty behind
  spelled_argument (Extends ty) behind = 43 ∷ spelled ty behind
  spelled_argument (Super ty) behind = 45 ∷ spelled ty behind

  pub spelled_suffixes : Suffixes → List ℕ → List ℕ
  spelled_suffixes NoSuffix behind = behind
  spelled_suffixes (Suffix name arguments rest) behind =
      46 ∷ (name ++ spelled_arguments arguments (spelled_suffixes rest behind))

-- ReferenceTypeSignature: every one but a BaseType
abbrev pub is_reference : TypeSignature → Bool
is_reference (BaseType prim) = false
is_reference (ClassType _ _ _) = true
is_reference (TypeVariable name) = true
is_reference (ArrayType member) = true

-- ClassTypeSignature
abbrev pub is_class : TypeSignature → Bool
is_class (BaseType prim) = false
is_class (ClassType _ _ _) = true
is_class (TypeVariable name) = false
is_class (ArrayType member) = false

-- the class or type variable of a ThrowsSignature
abbrev pub is_thrown : TypeSignature → Bool
is_thrown (BaseType prim) = false
is_thrown (ClassType _ _ _) = true
is_thrown (TypeVariable name) = true
is_thrown (ArrayType member) = false

abbrev pub count : TypeArguments → ℕ
count NoArguments = 0
count (Argument first rest) = suc (count rest)

-- A good signature: its names are identifiers, its type arguments are reference types, at most 255 in one list, and
-- at most so many signs `[` and `<` are open at one place of it.
abbrev mutual
  pub fits : ℕ → TypeSignature → Bool
  fits open_signs (BaseType prim) = true
  fits open_signs (ClassType path arguments suffixes) =
      is_path path && (arguments_fit open_signs arguments && suffixes_fit open_signs suffixes)
  fits open_signs (TypeVariable name) = is_identifier name
  fits zero (ArrayType member) = false
  fits (suc open_signs) (ArrayType member) = fits open_signs member

  pub arguments_fit : ℕ → TypeArguments → Bool
  arguments_fit open_signs NoArguments = true
  arguments_fit zero (Argument first rest) = false
  arguments_fit (suc open_signs) (Argument first rest) =
      (argument_fits open_signs first && further_fit open_signs rest) && nat_le (count rest) 254

  pub further_fit : ℕ → TypeArguments → Bool
  further_fit open_signs NoArguments = true
  further_fit open_signs (Argument first rest) = argument_fits open_signs first && further_fit open_signs rest

  pub argument_fits : ℕ → TypeArgument → Bool
  argument_fits open_signs Anything = true
  argument_fits open_signs (Exactly ty) = is_reference ty && fits open_signs ty
  argument_fits open_signs (Extends ty) = is_reference ty && fits open_signs ty
  argument_fits open_signs (Super ty) = is_reference ty && fits open_signs ty

  pub suffixes_fit : ℕ → Suffixes → Bool
  suffixes_fit open_signs NoSuffix = true
  suffixes_fit open_signs (Suffix name arguments rest) =
      is_identifier name && (arguments_fit open_signs arguments && suffixes_fit open_signs rest)

-- a good reference type
abbrev pub reference_fits : ℕ → TypeSignature → Bool
reference_fits open_signs ty = is_reference ty && fits open_signs ty

-- a good class type
abbrev pub class_fits : ℕ → TypeSignature → Bool
class_fits open_signs ty = is_class ty && fits open_signs ty

-- TypeParameter: a name, the bound behind the first colon, which may be left out, and one behind each further colon
pub record TypeParameter : Type 0 where
  pub name : List ℕ
  pub class_bound : Option TypeSignature
  pub interface_bounds : List TypeSignature

-- ClassSignature
pub record ClassSignature : Type 0 where
  pub parameters : List TypeParameter
  pub superclass : TypeSignature
  pub interfaces : List TypeSignature

-- MethodSignature, whose result is a type, or none where it is `V`
pub record MethodSignature : Type 0 where
  pub parameters : List TypeParameter
  pub arguments : List TypeSignature
  pub returned : Option TypeSignature
  pub thrown : List TypeSignature

-- what spells the members of a list, one behind another, in front of what stands behind them
abbrev pub spelled_each : {A : Type 0} → (A → List ℕ → List ℕ) → List A → List ℕ → List ℕ
spelled_each spelled_one [] behind = behind
spelled_each spelled_one (x ∷ xs) behind = spelled_one x (spelled_each spelled_one xs behind)

-- what spells a part that may be left out
abbrev pub spelled_option : {A : Type 0} → (A → List ℕ → List ℕ) → Option A → List ℕ → List ℕ
spelled_option spelled_one None behind = behind
spelled_option spelled_one (Some x) behind = spelled_one x behind

-- InterfaceBound
abbrev pub spelled_bound : TypeSignature → List ℕ → List ℕ
spelled_bound bound behind = 58 ∷ spelled bound behind

abbrev pub spelled_parameter : TypeParameter → List ℕ → List ℕ
spelled_parameter parameter behind =
    parameter.name ++ 58 ∷ spelled_option spelled parameter.class_bound (spelled_each spelled_bound parameter.interface_bounds behind)

-- TypeParameters: none, or a list in angle brackets
abbrev pub spelled_parameters : List TypeParameter → List ℕ → List ℕ
spelled_parameters [] behind = behind
spelled_parameters (first ∷ rest) behind = 60 ∷ spelled_each spelled_parameter (first ∷ rest) (62 ∷ behind)

-- ThrowsSignature
abbrev pub spelled_thrown : TypeSignature → List ℕ → List ℕ
spelled_thrown thrown behind = 94 ∷ spelled thrown behind

-- Result
abbrev pub spelled_result : Option TypeSignature → List ℕ → List ℕ
spelled_result None behind = 86 ∷ behind
spelled_result (Some ty) behind = spelled ty behind

abbrev pub spelled_class : ClassSignature → List ℕ
spelled_class class = spelled_parameters class.parameters (spelled class.superclass (spelled_each spelled class.interfaces []))

abbrev pub spelled_method : MethodSignature → List ℕ
spelled_method method =
    spelled_parameters method.parameters (40 ∷ spelled_each spelled method.arguments (41 ∷ spelled_result method.returned (spelled_each spelled_thrown method.thrown [])))

-- a part that may be left out is good
abbrev pub option_fits : {A : Type 0} → (A → Bool) → Option A → Bool
option_fits fits_one None = true
option_fits fits_one (Some x) = fits_one x

abbrev pub parameter_fits : ℕ → TypeParameter → Bool
parameter_fits open_signs parameter =
    is_identifier parameter.name && (option_fits (reference_fits open_signs) parameter.class_bound && list_all (reference_fits open_signs) parameter.interface_bounds)

-- The angle bracket of type parameters is an open sign too.
abbrev pub parameters_fit : ℕ → List TypeParameter → Bool
parameters_fit open_signs [] = true
parameters_fit zero (first ∷ rest) = false
parameters_fit (suc open_signs) (first ∷ rest) = list_all (parameter_fits open_signs) (first ∷ rest)

abbrev pub thrown_fits : ℕ → TypeSignature → Bool
thrown_fits open_signs ty = is_thrown ty && fits open_signs ty

abbrev pub class_signature_fits : ℕ → ClassSignature → Bool
class_signature_fits open_signs class =
    parameters_fit open_signs class.parameters && (class_fits open_signs class.superclass && list_all (class_fits open_signs) class.interfaces)

abbrev pub method_signature_fits : ℕ → MethodSignature → Bool
method_signature_fits open_signs method =
    (parameters_fit open_signs method.parameters && list_all (fits open_signs) method.arguments) && (option_fits (fits open_signs) method.returned && list_all (thrown_fits open_signs) method.thrown)
