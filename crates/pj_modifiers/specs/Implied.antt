-- Modifiers that hold by the rules of Java, beside those that are written. A rule is named by its section of the JLS.
use Rattle.std.specs.Prelude.{Bool, true, false, not, ◌&&◌, ◌||◌, Option}
use Rattle.std.specs.List.{list_any}
use Rattle.std.specs.Option.{option_map_or, option_and_then}
use Rattle.pj_tree.specs.Kinds.{is_kind}
use Rattle.pj_tree.specs.Children.{child_of, has_child}
use Rattle.pj_tree.specs.Words.{words_of, has}
use Rattle.pj_symbols.specs.Classes.{nesting_of}
use Rattle.pj_symbols.specs.declared.class.Nesting.{Nesting}
use Rattle.pj_symbols.specs.declared.class.Nesting.TheVariants.{TopLevel}
use Rattle.pj_tree.specs.Tree.{Tree, kind_of, parent_of, children_of}
use Rattle.pj_tree.specs.declared.kind.Kind.{Kind}
use Rattle.pj_tree.specs.declared.kind.Kind.TheVariants as k
use Rattle.pj_tree.specs.declared.node.Node.{Node}
use Rattle.pj_xvalue.specs.declared.modifiers.Modifier.{Modifier}
use Rattle.pj_xvalue.specs.declared.modifiers.Modifier.TheVariants as m
use Rattle.std.specs.Prelude.{codes}
use Rattle.pj_modifiers.specs.Explicit.{is_explicit_at, bearer_of}

-- ---- the places of declarations

-- JLS 9.1 and 9.6: interfaces, annotation interfaces included
abbrev pub is_interface : Tree → Node → Bool
is_interface t n = is_kind t k.AnnotationTypeDeclaration n || (is_kind t k.ClassDeclaration n && has (codes "interface") (words_of t n))

-- the class of which a declaration is a member: the node above its body
abbrev pub class_above : Tree → Node → Option Node
class_above t n = option_and_then (parent_of t) (parent_of t n)

-- whether a declaration is a member of an interface
abbrev pub in_interface : Tree → Node → Bool
in_interface t n = option_map_or (is_interface t) (class_above t n) false

-- whether it stands in the body of an enum class
abbrev pub in_enum : Tree → Node → Bool
in_enum t n = option_map_or (is_kind t k.EnumBody) (parent_of t n) false

abbrev pub is_top_level_class : Nesting → Bool
is_top_level_class TopLevel = true
is_top_level_class other = false

abbrev pub is_top_level : Tree → Node → Bool
is_top_level t n = is_top_level_class (nesting_of t n)

abbrev pub is_constant_body : Tree → Node → Bool
is_constant_body t n = is_kind t k.EnumConstant n && has_child t n k.AnonymousClassDeclaration

abbrev pub constant_body_among : Tree → Node → Bool
constant_body_among t body = list_any (is_constant_body t) (children_of t body)

-- whether a constant of an enum class has a class body
abbrev pub has_constant_body : Tree → Node → Bool
has_constant_body t n = option_map_or (constant_body_among t) (child_of t n k.EnumBody) false

-- ---- members of interfaces

-- JLS 9.3, 9.4, 9.5: they are public where they are not private
abbrev pub is_public_member : Tree → Node → Bool
is_public_member t n = in_interface t n && not (is_explicit_at t n m.Private)

-- JLS 9.3: fields of interfaces are public, static and final
abbrev pub field_implied : Tree → Node → Modifier → Bool
field_implied t n m.Public = is_public_member t n
field_implied t n m.Static = in_interface t n
field_implied t n m.Final = in_interface t n
field_implied t n other = false

-- JLS 9.4: methods of interfaces are abstract where they have no body and are not static, default or private
abbrev pub is_abstract_member : Tree → Node → Bool
is_abstract_member t n =
    in_interface t n && not (has_child t n k.Block) && not (is_explicit_at t n m.Static) && not (is_explicit_at t n m.Default) && not (is_explicit_at t n m.Private)

abbrev pub method_implied : Tree → Node → Modifier → Bool
method_implied t n m.Public = is_public_member t n
method_implied t n m.Abstract = is_abstract_member t n
method_implied t n other = false

-- ---- classes

-- JLS 8.9, 8.10, 9.1: enums, records and interfaces
abbrev pub is_static_class : Tree → Node → Bool
is_static_class t n = is_kind t k.EnumDeclaration n || is_kind t k.RecordDeclaration n || is_interface t n

-- JLS 9.5: member classes of interfaces are static; JLS 8.9, 8.10.1, 9.1.1.3, 14.3: so are enums, records and interfaces that are not at the top level
abbrev pub is_implied_static : Tree → Node → Bool
is_implied_static t n = in_interface t n || (is_static_class t n && not (is_top_level t n))

-- JLS 8.10: records are final; JLS 8.9: an enum is final where none of its constants has a class body
abbrev pub is_implied_final : Tree → Node → Bool
is_implied_final t n = is_kind t k.RecordDeclaration n || (is_kind t k.EnumDeclaration n && not (has_constant_body t n))

-- JLS 9.1.1.1: interfaces are abstract
abbrev pub class_implied : Tree → Node → Modifier → Bool
class_implied t n m.Public = is_public_member t n
class_implied t n m.Static = is_implied_static t n
class_implied t n m.Final = is_implied_final t n
class_implied t n m.Abstract = is_interface t n
class_implied t n other = false

-- ---- constants, constructors, variables

-- JLS 8.9.3: enum constants are public, static and final
abbrev pub constant_implied : Modifier → Bool
constant_implied m.Public = true
constant_implied m.Static = true
constant_implied m.Final = true
constant_implied other = false

-- JLS 8.10.3: the fields of record components are private and final, and so are the components
abbrev pub component_implied : Modifier → Bool
component_implied m.Private = true
component_implied m.Final = true
component_implied other = false

-- JLS 8.9.2: constructors of enums are private
abbrev pub constructor_implied : Tree → Node → Modifier → Bool
constructor_implied t n m.Private = in_enum t n
constructor_implied t n other = false

-- JLS 14.20.3: the variable that is declared in a resource is final
abbrev pub is_in_resource : Tree → Node → Bool
is_in_resource t n = option_map_or (is_kind t k.Resource) (parent_of t n) false

abbrev pub local_implied : Tree → Node → Modifier → Bool
local_implied t n m.Final = is_in_resource t n
local_implied t n other = false

-- JLS 14.20: a parameter of a `catch` with more than one type is final
abbrev pub catch_implied : Tree → Node → Modifier → Bool
catch_implied t n m.Final = has_child t n k.UnionType
catch_implied t n other = false

-- ---- all of them

abbrev pub implied_by : Kind → Tree → Node → Modifier → Bool
implied_by k.FieldDeclaration t n modifier = field_implied t n modifier
implied_by k.MethodDeclaration t n modifier = method_implied t n modifier
implied_by k.ClassDeclaration t n modifier = class_implied t n modifier
implied_by k.EnumDeclaration t n modifier = class_implied t n modifier
implied_by k.RecordDeclaration t n modifier = class_implied t n modifier
implied_by k.AnnotationTypeDeclaration t n modifier = class_implied t n modifier
implied_by k.EnumConstant t n modifier = constant_implied modifier
implied_by k.ConstructorDeclaration t n modifier = constructor_implied t n modifier
implied_by k.LocalVariableDeclaration t n modifier = local_implied t n modifier
implied_by k.CatchParameter t n modifier = catch_implied t n modifier
implied_by k.RecordComponent t n modifier = component_implied modifier
implied_by other t n modifier = false

abbrev pub is_implied : Tree → Node → Modifier → Bool
is_implied t n modifier = option_map_or (λ kind. implied_by kind t n modifier) (kind_of t n) false

-- The effective modifiers are those that are written, and those that the rules add.
abbrev pub is_effective_at : Tree → Node → Modifier → Bool
is_effective_at t n modifier = is_explicit_at t n modifier || is_implied t n modifier

abbrev pub is_effective : Tree → Node → Modifier → Bool
is_effective t n modifier = option_map_or (λ bearer. is_effective_at t bearer modifier) (bearer_of t n) false
