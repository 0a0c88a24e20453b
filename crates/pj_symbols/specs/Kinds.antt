-- The kinds of nodes that declare classes.
use Rattle.std.specs.Prelude.{Bool, true, false}
use Rattle.std.specs.Option.{option_map_or}
use Rattle.pj_tree.specs.Tree.{Tree, kind_of}
use Rattle.pj_tree.specs.declared.kind.Kind.{Kind}
use Rattle.pj_tree.specs.declared.kind.Kind.TheVariants as k
use Rattle.pj_tree.specs.declared.node.Node.{Node}

-- whether a node of the kind declares a class or an interface: JLS 8.1 and 9.1, 8.9, 8.10, 9.6, 15.9.5
abbrev pub is_class : Kind → Bool
is_class k.ClassDeclaration = true
is_class k.EnumDeclaration = true
is_class k.RecordDeclaration = true
is_class k.AnnotationTypeDeclaration = true
is_class k.AnonymousClassDeclaration = true
is_class other = false

abbrev pub declares_class : Tree → Node → Bool
declares_class t n = option_map_or is_class (kind_of t n) false
