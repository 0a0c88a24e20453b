-- What the headers of the classes of a file write (JLS 8.1.2, 8.1.4, 8.1.5, 8.9, 8.10, 9.1.3, 9.6, 15.9.5).
use Rattle.std.specs.Prelude.{ℕ, Bool, true, false, Option, Some, if◌then◌else◌, List, [], ◌∷◌, ◌++◌, codes}
use Rattle.std.specs.Option.{option_map_or, option_and_then}
use Rattle.pj_tree.specs.Tree.{Tree, kind_of, parent_of, children_of}
use Rattle.pj_tree.specs.declared.kind.Kind.{Kind}
use Rattle.pj_tree.specs.declared.kind.Kind.TheVariants as k
use Rattle.pj_tree.specs.declared.node.Node.{Node}
use Rattle.pj_tree.specs.Children.{child_of}
use Rattle.pj_tree.specs.Kinds.{is_kind}
use Rattle.pj_names.specs.ClassName.{Name, is_class_name}
use Rattle.pj_symbols.specs.Classes.{class_around}
use Rattle.pj_symbols.specs.Symbols.{class_at}
use Rattle.pj_written.specs.Words.{below_child, one_or_none}

-- The binary name of the class that a node declares. Of a node that declares none it is empty, and no name of a class.
abbrev pub class_text : Tree → Node → List ℕ
class_text t n = option_map_or (λ class. class.name) (class_at t n) []

-- ---- type parameters (JLS 8.1.2, 8.4.4)

-- the type parameters of a class, a method or a constructor
abbrev pub parameters_of : Tree → Node → List Node
parameters_of t n = below_child t n k.TypeParameters

-- whether a node is a bound: all children of a type parameter but its annotations are
abbrev pub is_bound : Kind → Bool
is_bound k.ClassType = true
is_bound k.IntersectionType = true
is_bound other = false

abbrev pub writes_bound : Tree → Node → Bool
writes_bound t n = option_map_or is_bound (kind_of t n) false

-- the class types of a bound: those of an intersection, or the one
abbrev pub bounds_in : Tree → Node → List Node
bounds_in t bound = if is_kind t k.IntersectionType bound then children_of t bound else bound ∷ []

abbrev pub if_bound : Tree → Node → List Node
if_bound t n = if writes_bound t n then bounds_in t n else []

abbrev pub bounds_among : Tree → List Node → List Node
bounds_among t [] = []
bounds_among t (n ∷ ns) = if_bound t n ++ bounds_among t ns

-- the bounds of a type parameter
abbrev pub bounds_of : Tree → Node → List Node
bounds_of t parameter = bounds_among t (children_of t parameter)

abbrev pub listed_bounds : Tree → List Node → List Node
listed_bounds t [] = []
listed_bounds t (parameter ∷ parameters) = bounds_of t parameter ++ listed_bounds t parameters

-- those of all type parameters
abbrev pub all_bounds : Tree → Node → List Node
all_bounds t n = listed_bounds t (parameters_of t n)

-- ---- supertypes that are written

-- the class type of a `new` with a body, which is the supertype of the anonymous class
abbrev pub created : Tree → Node → Option Node
created t class = option_and_then (λ new. child_of t new k.ClassType) (parent_of t class)

-- the types behind `extends`, which of an interface are its superinterfaces, and those behind `implements`
abbrev pub extended : Tree → Node → List Node
extended t class = below_child t class k.ExtendsList

abbrev pub implemented : Tree → Node → List Node
implemented t class = below_child t class k.ImplementsList

abbrev pub written_supertypes : Tree → Node → List Node
written_supertypes t class = if is_kind t k.AnonymousClassDeclaration class then one_or_none (created t class) else extended t class ++ implemented t class

-- ---- supertypes that are not written

-- whether an anonymous class is the body of an enum constant (JLS 8.9.1)
abbrev pub is_constant_body : Tree → Node → Bool
is_constant_body t class = option_map_or (is_kind t k.EnumConstant) (parent_of t class) false

-- the enum of such a body
abbrev pub if_name : List ℕ → List Name
if_name text = if is_class_name text then text ∷ [] else []

abbrev pub enum_around : Tree → Node → List Name
enum_around t class = option_map_or (λ enum. if_name (class_text t enum)) (class_around t class) []

abbrev pub enum_of_body : Tree → Node → List Name
enum_of_body t class = if is_constant_body t class then enum_around t class else []

-- A class without a written superclass has `java.lang.Object`, of which nothing is looked for, so it is not listed.
abbrev pub implied_by : Tree → Node → Option Kind → List Name
implied_by t class (Some k.EnumDeclaration) = codes "java.lang.Enum" ∷ []
implied_by t class (Some k.RecordDeclaration) = codes "java.lang.Record" ∷ []
implied_by t class (Some k.AnnotationTypeDeclaration) = codes "java.lang.annotation.Annotation" ∷ []
implied_by t class (Some k.AnonymousClassDeclaration) = enum_of_body t class
implied_by t class other = []

-- they are not resolved, and stand before those that are written
abbrev pub implied_supertypes : Tree → Node → List Name
implied_supertypes t class = implied_by t class (kind_of t class)
