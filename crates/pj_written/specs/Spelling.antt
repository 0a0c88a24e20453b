-- How the types of a declaration are spelled as signatures (JVMS 4.7.9.1), after they are resolved.
use Rattle.std.specs.Prelude.{ℕ, ◌==◌, if◌then◌else◌, List, [], ◌∷◌, ◌++◌, map, codes}
use Rattle.pj_names.specs.ClassName.{Name}
use Rattle.pj_names.specs.JavaType.{JavaType, Arguments, Primitive, Void, Null, Class, Array, Variable, Unknown, NoMore, Argument}
use Rattle.pj_signatures.specs.Signature.{letter}
use Rattle.pj_written.specs.Words.{flattened}

-- a dot, 46, as a solidus, 47
abbrev pub as_solidus : ℕ → ℕ
as_solidus b = if b == 46 then 47 else b

-- the name of a class in internal form (JVMS 4.2.1)
abbrev pub internal : Name → List ℕ
internal name = map as_solidus name

-- the type that is not known: the class `?`
abbrev pub unknown_text : List ℕ
unknown_text = codes "L?;"

-- between `<` and `>`
abbrev pub in_angles : List ℕ → List ℕ
in_angles text = 60 ∷ (text ++ 62 ∷ [])

-- A type. A variable is spelled by its name, wherever it is declared; its bound is not spelled.
abbrev mutual
  pub spelled : JavaType → List ℕ
  spelled (Primitive prim) = letter prim ∷ []
  spelled Void = codes "V"
  spelled Null = unknown_text
  spelled (Class name arguments) = 76 ∷ (internal name ++ (listed arguments ++ 59 ∷ []))
  spelled (Array member) = 91 ∷ spelled member
  spelled (Variable name bound) = 84 ∷ (name ++ 59 ∷ [])
  spelled Unknown = unknown_text

  -- where there are none, nothing stands
  pub listed : Arguments → List ℕ
  listed NoMore = []
  listed (Argument first rest) = in_angles (spelled first ++ spelled_arguments rest)

  pub spelled_arguments : Arguments → List ℕ
  spelled_arguments NoMore = []
  spelled_arguments (Argument first rest) = spelled first ++ spelled_arguments rest

abbrev pub all_spelled : List JavaType → List ℕ
all_spelled types = flattened (map spelled types)

-- ---- type parameters

-- a type parameter by its name and its bounds
pub record Parameter : Type 0 where
  pub name : List ℕ
  pub bounds : List JavaType

abbrev pub further_bounds : List JavaType → List ℕ
further_bounds [] = []
further_bounds (bound ∷ more) = 58 ∷ (spelled bound ++ further_bounds more)

-- The bounds stand behind colons, each as a class bound would (JVMS 4.7.9.1): whether a bound is an interface is not looked at. Without a bound it is `java.lang.Object`.
abbrev pub spelled_bounds : List JavaType → List ℕ
spelled_bounds [] = codes ":Ljava/lang/Object;"
spelled_bounds (first ∷ more) = further_bounds (first ∷ more)

abbrev pub spelled_parameter : Parameter → List ℕ
spelled_parameter parameter = parameter.name ++ spelled_bounds parameter.bounds

abbrev pub all_parameters_spelled : List Parameter → List ℕ
all_parameters_spelled parameters = flattened (map spelled_parameter parameters)

abbrev pub spelled_parameters : List Parameter → List ℕ
spelled_parameters [] = []
spelled_parameters (first ∷ more) = in_angles (all_parameters_spelled (first ∷ more))

-- ---- whole signatures

abbrev pub class_signature_text : List Parameter → JavaType → List JavaType → List ℕ
class_signature_text parameters superclass interfaces = spelled_parameters parameters ++ (spelled superclass ++ all_spelled interfaces)

abbrev pub method_signature_text : List Parameter → List JavaType → JavaType → List ℕ
method_signature_text parameters arguments returned = spelled_parameters parameters ++ (40 ∷ (all_spelled arguments ++ 41 ∷ spelled returned))
