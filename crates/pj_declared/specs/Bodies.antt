-- Bodies of classes, and the scopes of members (JLS 6.3, 8.1.7, 8.10.1).
use Rattle.std.specs.Prelude.{Bool, true, false, Option, None, Some, if◌then◌else◌, List, [], ◌∷◌}
use Rattle.std.specs.Option.{option_map, option_map_or, option_and_then}
use Rattle.pj_tree.specs.Tree.{Tree, kind_of, parent_of, ancestors_of}
use Rattle.pj_tree.specs.declared.kind.Kind.{Kind}
use Rattle.pj_tree.specs.declared.kind.Kind.TheVariants as k
use Rattle.pj_tree.specs.declared.node.Node.{Node}
use Rattle.pj_tree.specs.Children.{child_of}
use Rattle.pj_declared.specs.declared.scope.Scopes.{Scopes}
use Rattle.pj_declared.specs.Scope.{scope_from}

-- what the body of a class is: JLS 8.1.7 and 9.1.5, 8.9.1, 8.10.2, 9.6.1, 15.9.5
abbrev pub body_kind : Kind → Option Kind
body_kind k.ClassDeclaration = Some k.ClassBody
body_kind k.EnumDeclaration = Some k.EnumBody
body_kind k.RecordDeclaration = Some k.RecordBody
body_kind k.AnnotationTypeDeclaration = Some k.AnnotationTypeBody
body_kind k.AnonymousClassDeclaration = Some k.ClassBody
body_kind other = None

abbrev pub body_of : Tree → Node → Option Node
body_of t class = option_and_then (child_of t class) (option_and_then body_kind (kind_of t class))

-- A member is in scope in the whole body of its class, and in the header of a record, whose components it has (JLS 6.3). The class opens the scope.
abbrev pub member_scopes : Tree → Node → Node → Scopes
member_scopes t declared class = record {
  first = option_map (scope_from declared class.0) (child_of t class k.RecordComponentList);
  second = option_map (scope_from declared class.0) (body_of t class);
}

-- ---- the class around a place

-- whether a node of the kind is the body of a class
abbrev pub is_body : Kind → Bool
is_body k.ClassBody = true
is_body k.EnumBody = true
is_body k.RecordBody = true
is_body k.AnnotationTypeBody = true
is_body other = false

-- and whether the members of the class above are in scope in it
abbrev pub shows_members : Kind → Bool
shows_members k.RecordComponentList = true
shows_members other = is_body other

abbrev pub first_showing : Tree → List Node → Option Node
first_showing t [] = None
first_showing t (n ∷ above) = if option_map_or shows_members (kind_of t n) false then Some n else first_showing t above

-- the innermost class whose members are in scope at the place: the place is its body or the header of the record, or stands in it
abbrev pub class_at : Tree → Node → Option Node
class_at t place = option_and_then (parent_of t) (first_showing t (place ∷ ancestors_of t place))
