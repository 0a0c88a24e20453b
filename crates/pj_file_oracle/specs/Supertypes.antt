-- The superclass and the interfaces that a class of the file answers, where the headers of some classes are being resolved.
--
-- Types that are written are resolved, each at its own place; those that a class has without writing them are not, and are none of its needs.
use Rattle.std.specs.Prelude.{ℕ, ◌==◌, ◌||◌, nat_eq, bit_and, Bool, false, is_some, Option, None, Some, if◌then◌else◌, List, [], ◌∷◌, codes}
use Rattle.std.specs.List.{starts_with}
use Rattle.std.specs.Option.{option_map_or}
use Rattle.pj_tree.specs.Tree.{Tree, kind_of}
use Rattle.pj_tree.specs.declared.kind.Kind.{Kind}
use Rattle.pj_tree.specs.declared.kind.Kind.TheVariants as k
use Rattle.pj_tree.specs.declared.node.Node.{Node}
use Rattle.pj_tree.specs.Kinds.{is_kind}
use Rattle.pj_names.specs.declared.answer.Answer.{Answer}
use Rattle.pj_names.specs.declared.answer.Answer.TheVariants.{Found, Absent, Broken}
use Rattle.pj_names.specs.ClassName.{Name, is_class_name, is_object}
use Rattle.pj_names.specs.JavaType.{JavaType, Class, Unknown, NoMore, Argument}
use Rattle.pj_names.specs.Asking.{Asking, Return, ask, bind, each}
use Rattle.pj_signatures.specs.Reading.{class_signature_of}
use Rattle.pj_symbols.specs.Classes.{class_around}
use Rattle.pj_written.specs.Headers.{class_text, created, extended, implemented, is_constant_body}
use Rattle.pj_written.specs.Types.{class_of_text, object_type}
use Rattle.pj_written.specs.Words.{is_interface, is_regular_interface}
use Rattle.pj_outer_names.specs.Candidates.{file_classes, node_named}
use Rattle.pj_type_names.specs.TypeName.{written_type}

-- the superclass and the interfaces
pub record Supertypes : Type 0 where
  pub superclass : JavaType
  pub interfaces : List JavaType

-- ---- supertypes that are written

-- one that is no class is not known (JLS 8.1.4, 8.1.5)
abbrev pub as_supertype : JavaType → JavaType
as_supertype (Class name arguments) = Class name arguments
as_supertype other = Unknown

unfoldable pub supertype : Tree → List ℕ → Node → Asking JavaType
supertype t busy n = bind (written_type t busy 0 n) (λ ty. Return (as_supertype ty))

-- those behind `extends`
abbrev pub extended_types : Tree → List ℕ → Node → Asking (List JavaType)
extended_types t busy class = each (supertype t busy) (extended t class)

-- and those behind `implements`
abbrev pub implemented_types : Tree → List ℕ → Node → Asking (List JavaType)
implemented_types t busy class = each (supertype t busy) (implemented t class)

-- ---- of a class with a name

-- a class with one type argument; a text that is no name of a class is not known
abbrev pub with_argument : List ℕ → JavaType → JavaType
with_argument text argument = if is_class_name text then Class text (Argument argument NoMore) else Unknown

-- the superclass, where none is written (JLS 8.1.4, 8.9, 8.10): of an enum `java.lang.Enum` of the enum
abbrev pub implied_by : Tree → Node → Option Kind → JavaType
implied_by t class (Some k.EnumDeclaration) = with_argument (codes "java.lang.Enum") (class_of_text (class_text t class))
implied_by t class (Some k.RecordDeclaration) = class_of_text (codes "java.lang.Record")
implied_by t class other = object_type

abbrev pub implied_superclass : Tree → Node → JavaType
implied_superclass t class = implied_by t class (kind_of t class)

-- a class has one type behind `extends` at most (JLS 8.1.4)
abbrev pub first_or : JavaType → List JavaType → JavaType
first_or implied [] = implied
first_or implied (ty ∷ types) = ty

abbrev pub with_interfaces : Tree → Node → List JavaType → List JavaType → Supertypes
with_interfaces t class above interfaces = record { superclass = first_or (implied_superclass t class) above; interfaces = interfaces }

-- of a class that is no interface
abbrev pub class_supertypes : Tree → List ℕ → Node → Asking Supertypes
class_supertypes t busy class =
    bind (extended_types t busy class) (λ above.
    bind (implemented_types t busy class) (λ interfaces.
    Return (with_interfaces t class above interfaces)))

-- those behind `extends` of an interface are its superinterfaces (JLS 9.1.3); its superclass is `java.lang.Object` (JVMS 4.1)
abbrev pub only_interfaces : List JavaType → Supertypes
only_interfaces interfaces = record { superclass = object_type; interfaces = interfaces }

abbrev pub interface_supertypes : Tree → List ℕ → Node → Asking Supertypes
interface_supertypes t busy class = bind (extended_types t busy class) (λ above. Return (only_interfaces above))

-- of a class or an interface
abbrev pub named_supertypes : Tree → List ℕ → Node → Asking Supertypes
named_supertypes t busy class = if is_regular_interface t class then interface_supertypes t busy class else class_supertypes t busy class

-- ---- of an anonymous class

-- the one type that it writes, as its superclass
abbrev pub as_superclass : JavaType → Supertypes
as_superclass ty = record { superclass = ty; interfaces = [] }

-- or as its one interface
abbrev pub as_interface : JavaType → Supertypes
as_interface ty = only_interfaces (ty ∷ [])

-- Whether an answer is an interface, by the flag of interfaces, 512 (JVMS 4.1). A class whose signature is none counts as a broken one.
abbrev pub is_interface_answer : Answer → Bool
is_interface_answer (Found class) = if bit_and class.flags 512 == 0 then false else is_some (class_signature_of class.signature)
is_interface_answer Absent = false
is_interface_answer (Broken broken) = false

-- whether a name is that of a member class of `java.lang.Object`
abbrev pub is_in_object : List ℕ → Bool
is_in_object name = starts_with nat_eq name (codes "java.lang.Object$")

-- Nothing is looked for in `java.lang.Object`: neither it nor a member class of it is asked when a type is resolved, but where an import or a name with a package writes the
-- member class. So they are not asked here, and count as no interfaces.
abbrev pub is_of_object : Name → Bool
is_of_object name = is_object name || is_in_object name

-- A class outside the file is asked once more, which asks nothing new: it was asked when the type was resolved.
abbrev pub asked_interface : Name → Asking Bool
asked_interface name = if is_of_object name then Return false else bind (ask name) (λ answer. Return (is_interface_answer answer))

-- whether a class is an interface: of the file by its declaration, and else by its answer
abbrev pub interface_by : Tree → Name → Option Node → Asking Bool
interface_by t name None = asked_interface name
interface_by t name (Some class) = Return (is_interface t class)

abbrev pub interface_named : Tree → Name → Asking Bool
interface_named t name = interface_by t name (node_named (file_classes t) name)

-- and a type
abbrev pub is_interface_type : Tree → JavaType → Asking Bool
is_interface_type t (Class name arguments) = interface_named t name
is_interface_type t other = Return false

-- the type of the `new` is the superclass, or the one interface (JLS 15.9.5)
abbrev pub by_type : Tree → JavaType → Asking Supertypes
by_type t ty = bind (is_interface_type t ty) (λ interface. Return (if interface then as_interface ty else as_superclass ty))

-- of the class of a `new`, by the node of that type
abbrev pub created_supertypes : Tree → List ℕ → Option Node → Asking Supertypes
created_supertypes t busy None = Return (as_superclass object_type)
created_supertypes t busy (Some n) = bind (supertype t busy n) (λ ty. by_type t ty)

-- the body of an enum constant has the enum as its superclass, without arguments (JLS 8.9.1)
abbrev pub enum_type : Tree → Node → JavaType
enum_type t class = option_map_or (λ enum. class_of_text (class_text t enum)) (class_around t class) object_type

-- of any anonymous class
abbrev pub anonymous_supertypes : Tree → List ℕ → Node → Asking Supertypes
anonymous_supertypes t busy class =
    if is_constant_body t class then Return (as_superclass (enum_type t class)) else created_supertypes t busy (created t class)

-- ---- of any class of the file

-- an annotation interface extends `java.lang.annotation.Annotation` (JLS 9.6)
abbrev pub annotation_supertypes : Supertypes
annotation_supertypes = as_interface (class_of_text (codes "java.lang.annotation.Annotation"))

abbrev pub supertypes_of : Tree → List ℕ → Node → Asking Supertypes
supertypes_of t busy class =
    if is_kind t k.AnonymousClassDeclaration class then anonymous_supertypes t busy class
    else if is_kind t k.AnnotationTypeDeclaration class then Return annotation_supertypes
    else named_supertypes t busy class
