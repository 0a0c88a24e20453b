-- The supertypes of a class, JLS 4.10.2, and the steps in which they are given.
use Rattle.std.specs.Prelude.{ℕ, List, [], ◌∷◌, ◌++◌, map, Option, Some, None, if◌then◌else◌}
use Rattle.pj_names.specs.declared.answer.Answer.{Answer}
use Rattle.pj_names.specs.declared.answer.Answer.TheVariants.{Found, Absent, Broken}
use Rattle.pj_names.specs.ClassName.{Name, is_object}
use Rattle.pj_names.specs.JavaType.{JavaType, Primitive, Void, Null, Class, Array, Variable, Unknown, Arguments, NoMore, Argument}
use Rattle.pj_names.specs.Asking.{Asking, Return, Unbounded, bind, look_up, has_name, unvisited}
use Rattle.pj_signatures.specs.Types.{ClassTypes}
use Rattle.pj_signatures.specs.Reading.{class_signature_of}
use Rattle.pj_types.specs.Substitution.{substituted, erased}
use Rattle.pj_types.specs.DepthFirst.{visit}

-- A class on a list of supertypes, with its type arguments. The first class has none: it stands with its own type
-- parameters.
pub record Listed : Type 0 where
  pub name : Name
  pub arguments : Option Arguments

-- the class that a list begins with
abbrev pub first_listed : Name → Listed
first_listed name = record { name = name; arguments = None }

-- the arguments that a class on a list is given with
abbrev pub given_arguments : Option Arguments → Arguments
given_arguments None = NoMore
given_arguments (Some arguments) = arguments

-- The type that a class on a list is given as: the first class without arguments.
abbrev pub given_type : Listed → JavaType
given_type class = Class class.name (given_arguments class.arguments)

abbrev pub with_pair : (Name × JavaType) → Option (List (Name × JavaType)) → Option (List (Name × JavaType))
with_pair pair None = None
with_pair pair (Some pairs) = Some (pair ∷ pairs)

-- type parameters, each with its argument, where there are as many of both
abbrev pub paired : List (Name × JavaType) → Arguments → Option (List (Name × JavaType))
paired [] NoMore = Some []
paired [] (Argument first rest) = None
paired (parameter ∷ parameters) NoMore = None
paired (parameter ∷ parameters) (Argument first rest) = with_pair (parameter.0, first) (paired parameters rest)

-- A supertype of a class with type arguments: these stand in place of the parameters, JLS 4.10.2. Where they are not as
-- many as the parameters, the class is raw, and its supertype is erased, JLS 4.8.
abbrev pub by_arguments : Option (List (Name × JavaType)) → JavaType → JavaType
by_arguments None ty = erased ty
by_arguments (Some bindings) ty = substituted bindings ty

-- A supertype, written with the parameters of the first class: a supertype of that class itself is written so already.
abbrev pub written : List (Name × JavaType) → Option Arguments → JavaType → JavaType
written parameters None ty = ty
written parameters (Some arguments) ty = by_arguments (paired parameters arguments) ty

-- a type in front of a list of classes, where it is a class: one that is not known is left out
abbrev pub with_class : JavaType → List Listed → List Listed
with_class (Primitive prim) classes = classes
with_class Void classes = classes
with_class Null classes = classes
with_class (Class name arguments) classes = record { name = name; arguments = Some arguments } ∷ classes
with_class (Array member) classes = classes
with_class (Variable name bound) classes = classes
with_class Unknown classes = classes

-- the classes among some types, each as it is written
abbrev pub classes_by : (JavaType → JavaType) → List JavaType → List Listed
classes_by write [] = []
classes_by write (ty ∷ types) = with_class (write ty) (classes_by write types)

-- the superclass and then the interfaces of a signature that was read
abbrev pub of_signature : Option Arguments → Option ClassTypes → List Listed
of_signature arguments None = []
of_signature arguments (Some types) = classes_by (written types.params arguments) (types.superclass ∷ types.interfaces)

-- what the signature of a class that was found stands for, where it is one
abbrev pub signature_of : Answer → Option ClassTypes
signature_of (Found class) = class_signature_of class.signature
signature_of Absent = None
signature_of (Broken broken) = None

-- A class that is absent or broken, or whose signature is none, has no supertypes.
abbrev pub of_answer : Option Arguments → Answer → List Listed
of_answer arguments answer = of_signature arguments (signature_of answer)

-- `java.lang.Object` has no supertypes.
abbrev pub of_known : Option Arguments → Option Answer → List Listed
of_known arguments None = []
of_known arguments (Some answer) = of_answer arguments answer

-- The direct supertypes of a class: its superclass, then its interfaces in their order, JLS 8.1.4, 8.1.5 and 9.1.3.
unfoldable pub direct : Listed → Asking (List Listed)
direct class = bind (look_up class.name) (λ known. Return (of_known class.arguments known))

abbrev pub name_of : Listed → Name
name_of class = class.name

-- a test of types, as one of classes on a list
abbrev pub on_listed : {B : Type 0} → (JavaType → Asking (Option B)) → Listed → Asking (Option B)
on_listed test class = test (given_type class)

-- The supertypes of a class along which a test is tried, up to its first hit, where at most so many classes are visited.
unfoldable pub search_within : {B : Type 0} → ℕ → (JavaType → Asking (Option B)) → Name → Asking (Option B × List JavaType)
search_within most test name =
    bind (visit name_of (on_listed test) direct most most [] (first_listed name)) (λ outcome. Return (outcome.0, map given_type outcome.1))

-- The supertypes of a class along which a test is tried, up to its first hit: the class, then depth first its superclass,
-- then its interfaces in order; a class that was visited is skipped. It gives the hit, if there is one, and the list up to
-- there. No number bounds the recursion.
abbrev pub search : {B : Type 0} → (JavaType → Asking (Option B)) → Name → Asking (Option B × List JavaType)
search test name = Unbounded (λ most. search_within most test name)

-- nothing is a hit
abbrev pub no_hit : JavaType → Asking (Option (Unit {0}))
no_hit ty = Return None

-- the list of a search
abbrev pub list_of : {B : Type 0} → Asking (Option B × List JavaType) → Asking (List JavaType)
list_of found = bind found (λ outcome. Return outcome.1)

-- the whole list of supertypes, where it has at most so many members
abbrev pub supertypes_within : ℕ → Name → Asking (List JavaType)
supertypes_within most name = list_of (search_within most no_hit name)

-- the whole list of supertypes
abbrev pub supertype_list : Name → Asking (List JavaType)
supertype_list name = list_of (search no_hit name)

-- the name of a class
abbrev pub class_name : JavaType → Name
class_name (Primitive prim) = []
class_name Void = []
class_name Null = []
class_name (Class name arguments) = name
class_name (Array member) = []
class_name (Variable name bound) = []
class_name Unknown = []

-- the names of the whole list of supertypes
abbrev pub supertypes_of : Name → Asking (List Name)
supertypes_of name = bind (supertype_list name) (λ types. Return (map class_name types))

-- Where a walk stands: the classes that it gave, and those that it is still to visit, the next one first. What the class
-- given last leads to is not yet among these.
pub record Standing : Type 0 where
  pub given : List Listed
  pub to_visit : List Listed

-- the walk along the supertypes of a class, where it begins
abbrev pub begin : Name → Standing
begin name = record { given = []; to_visit = first_listed name ∷ [] }

-- what the class given last leads to
abbrev pub after_last : List Listed → Asking (List Listed)
after_last [] = Return []
after_last (class ∷ []) = direct class
after_last (class ∷ (second ∷ more)) = after_last (second ∷ more)

-- the names that the class given last asks: its own, unless it is `java.lang.Object`
abbrev pub last_asked : List Listed → List Name
last_asked [] = []
last_asked (class ∷ []) = if is_object class.name then [] else class.name ∷ []
last_asked (class ∷ (second ∷ more)) = last_asked (second ∷ more)

-- one class more, where there is one
abbrev pub given_next : Standing → List Listed → Option JavaType × Standing
given_next standing [] = (None, standing)
given_next standing (class ∷ rest) = (Some (given_type class), record { given = standing.given ++ class ∷ []; to_visit = rest })

-- the classes to visit, without those in front that were visited
abbrev pub still_left : List Listed → List Listed → List Listed
still_left given to_visit = unvisited name_of (has_name (map name_of given)) to_visit

-- One step of a walk: the class given last is asked, unless it is `java.lang.Object`, and the next class that was not
-- visited is given. At the end of the list nothing is given, and the walk stays where it stands.
unfoldable pub step : Standing → Asking (Option JavaType × Standing)
step standing = bind (after_last standing.given) (λ more. Return (given_next standing (still_left standing.given (more ++ standing.to_visit))))
