-- Members of a receiver: a class with type arguments (JLS 4.5.2, 4.8, 4.10.2).
--
-- The receiver's arguments are put in where each type is written: into the members and the supertypes that its own class declares. In a further class of its
-- list of supertypes the arguments that this class stands with are put into what that class declares. So a type variable of a class around the owner of a
-- member (JLS 8.1.2) is never taken for a type parameter of the receiver's class, whatever its name.
use Rattle.std.specs.Prelude.{ℕ, List, [], ◌∷◌, ◌++◌, map, Option, Some, None, if◌then◌else◌, nat_eq}
use Rattle.std.specs.Cmp.Lexicographic.{pointwise}
use Rattle.std.specs.FinSet as set
use Rattle.std.specs.Option.{option_map_or}
use Rattle.pj_names.specs.declared.answer.Answer.{Answer}
use Rattle.pj_names.specs.ClassName.{Name, NameSet}
use Rattle.pj_names.specs.JavaType.{Arguments, arguments_of}
use Rattle.pj_names.specs.Asking.{Asking, Return, Unbounded, bind, look_up}
use Rattle.pj_types.specs.DepthFirst.{visit}
use Rattle.pj_types.specs.Members.{FoundField, FoundMethod}
use Rattle.pj_types.specs.Supertypes.{Listed, direct, given_arguments, name_of, signature_of}
use Rattle.pj_members.specs.InClass.{Bound, field_of_known, in_place, methods_of_known}
use Rattle.pj_members.specs.Methods.{found_in, is_constructor, key_of, searched}

-- the type parameters of a class; one that is absent or broken, or whose signature is none, has none
abbrev pub parameters_of : Option Answer → Bound
parameters_of None = []
parameters_of (Some answer) = option_map_or (λ types. types.params) (signature_of answer) []

-- What stands in the place of the type parameters of a receiver's class: the receiver's type arguments (JLS 4.5.2); where the receiver is raw, the parameters'
-- erased bounds (JLS 4.8).
abbrev pub given_to : Arguments → Option Answer → Bound
given_to arguments known = in_place (parameters_of known) (Some arguments)

-- the receiver's class at the head of its list of supertypes, with that as its type arguments
abbrev pub head_of : Name → Arguments → Option Answer → Listed
head_of class arguments known = record { name = class; arguments = Some (arguments_of (map (λ pair. pair.1) (given_to arguments known))) }

-- The supertypes of a class with type arguments along which a test is tried, up to its first hit (JLS 4.10.2): the class, then depth first its superclass, then its
-- interfaces in order, each with the type arguments that it stands with. A class that was visited is skipped.
abbrev pub search_from : {B : Type 0} → (Listed → Asking (Option B)) → Listed → Asking (Option B × List Listed)
search_from test head = Unbounded (λ most. visit name_of test direct most most [] head)

abbrev pub hit_of : {B : Type 0} → Option B × List Listed → Option B
hit_of outcome = outcome.0

-- the first hit
abbrev pub first_from : {B : Type 0} → (Listed → Asking (Option B)) → Listed → Asking (Option B)
first_from test head = bind (search_from test head) (λ outcome. Return (hit_of outcome))

-- the first hit along the supertypes of a receiver: its class is asked first, unless it is `java.lang.Object`
abbrev pub along_receiver : {B : Type 0} → (Listed → Asking (Option B)) → Name → Arguments → Asking (Option B)
along_receiver test class arguments = bind (look_up class) (λ known. first_from test (head_of class arguments known))

-- ---- fields

-- the field of a class that stands with type arguments
unfoldable pub field_on_list : List ℕ → Listed → Asking (Option FoundField)
field_on_list name class = bind (look_up class.name) (λ known. Return (field_of_known class.name class.arguments name known))

-- The field of a receiver is the first of its name along its list of supertypes (JLS 8.3, 15.11.1): each class is asked before the next one is given.
abbrev pub field_of_receiver : Name → Arguments → List ℕ → Asking (Option FoundField)
field_of_receiver class arguments name = along_receiver (field_on_list name) class arguments

-- ---- supertypes

abbrev pub arguments_if_named : Name → Listed → Option Arguments
arguments_if_named wanted class = if pointwise nat_eq class.name wanted then Some (given_arguments class.arguments) else None

unfoldable pub supertype_test : Name → Listed → Asking (Option Arguments)
supertype_test wanted class = Return (arguments_if_named wanted class)

-- the type arguments with which a class stands among the supertypes of a receiver (JLS 4.10.2), where it is one of them
abbrev pub supertype_of_receiver : Name → Arguments → Name → Asking (Option Arguments)
supertype_of_receiver class arguments wanted = along_receiver (supertype_test wanted) class arguments

-- ---- methods

abbrev pub no_hit : Listed → Asking (Option (Unit {0}))
no_hit class = Return None

-- the list of a search
abbrev pub second_of : {B : Type 0} → Option B × List Listed → List Listed
second_of outcome = outcome.1

-- the whole list of supertypes of a class with type arguments
abbrev pub list_from : Listed → Asking (List Listed)
list_from head = bind (search_from no_hit head) (λ outcome. Return (second_of outcome))

-- constructors are looked for in the class alone (JLS 8.8), and other methods along the whole list
abbrev pub classes_for : List ℕ → Listed → Asking (List Listed)
classes_for name head = if is_constructor name then Return (head ∷ []) else list_from head

-- the methods of a class that stands with type arguments
unfoldable pub methods_on_list : List ℕ → Listed → Asking (List FoundMethod)
methods_on_list name class = bind (look_up class.name) (λ known. Return (methods_of_known class.name class.arguments name known))

-- behind those found so far, those of some classes, one after the other
abbrev pub given_in : List ℕ → List FoundMethod → List Listed → Asking (List FoundMethod)
given_in name found [] = Return found
given_in name found (class ∷ classes) = bind (methods_on_list name class) (λ more. given_in name (found ++ more) classes)

abbrev pub given_methods : List ℕ → Listed → Asking (List FoundMethod)
given_methods name head = bind (classes_for name head) (λ classes. given_in name [] classes)

-- Of methods as a receiver has them, those that are not hidden. That is told by what the classes declare (JLS 8.4.8), whatever the receiver's type arguments are: of
-- `class C<T> { void m(T t) {} void m(String s) {} }` both are methods of a `C<String>`. Both lists go along the same classes.
abbrev pub unhidden_as : NameSet → List FoundMethod → List FoundMethod → List FoundMethod
unhidden_as earlier [] given = []
unhidden_as earlier (declared ∷ others) [] = []
unhidden_as earlier (declared ∷ others) (method ∷ rest) =
    if set.contains earlier (key_of declared) then unhidden_as earlier others rest
    else method ∷ unhidden_as (set.insert earlier (key_of declared)) others rest

abbrev pub declared_methods : Name → List ℕ → Asking (List FoundMethod)
declared_methods class name = bind (searched class name) (λ types. found_in class name [] types)

-- the methods of a name of a receiver, those that are hidden too
abbrev pub given_of_receiver : Name → Arguments → List ℕ → Asking (List FoundMethod)
given_of_receiver class arguments name = bind (look_up class) (λ known. given_methods name (head_of class arguments known))

-- The methods of a name of a receiver (JLS 15.12.2.1), in the order of its list of supertypes.
abbrev pub methods_of_receiver : Name → Arguments → List ℕ → Asking (List FoundMethod)
methods_of_receiver class arguments name =
    bind (declared_methods class name) (λ declared. bind (given_of_receiver class arguments name) (λ given. Return (unhidden_as set.empty declared given)))
