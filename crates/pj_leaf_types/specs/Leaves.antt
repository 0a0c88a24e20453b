-- Types of nodes that are told without the types of others: of literals (JLS 15.8.1, 15.8.2), `this` and `super` (JLS 15.8.3, 15.8.4, 15.11.2), types that are written, and classes that
-- are declared.
use Rattle.std.specs.Prelude.{Option, Some}
use Rattle.pj_tree.specs.Tree.{Tree}
use Rattle.pj_tree.specs.Words.{first_of, words_of}
use Rattle.pj_tree.specs.declared.kind.Kind.{Kind}
use Rattle.pj_tree.specs.declared.kind.Kind.TheVariants as k
use Rattle.pj_tree.specs.declared.node.Node.{Node}
use Rattle.pj_names.specs.declared.ty.PrimitiveType.TheVariants as p
use Rattle.pj_names.specs.JavaType.{JavaType, Primitive, Null, Unknown}
use Rattle.pj_names.specs.Asking.{Asking, Return}
use Rattle.pj_operators.specs.Literals.{number_type, string_type}
use Rattle.pj_leaf_types.specs.Classes.{declared_class, super_type, this_type}
use Rattle.pj_leaf_types.specs.Written.{cast, created, literal_of, written}

abbrev pub leaf_by : Tree → Node → Option Kind → Asking JavaType
-- literals
leaf_by t n (Some k.NumericLiteral) = Return (Primitive (number_type (first_of (words_of t n))))
leaf_by t n (Some k.StringLiteral) = Return string_type
leaf_by t n (Some k.CharLiteral) = Return (Primitive p.Char)
leaf_by t n (Some k.BooleanLiteral) = Return (Primitive p.Boolean)
leaf_by t n (Some k.NullLiteral) = Return Null
leaf_by t n (Some k.ClassLiteral) = literal_of t n
-- the class around
leaf_by t n (Some k.ThisExpression) = this_type t n
leaf_by t n (Some k.SuperExpression) = super_type t n
-- types that are written
leaf_by t n (Some k.CastExpression) = cast t n
leaf_by t n (Some k.ArrayAllocation) = written t n
leaf_by t n (Some k.TypeExpression) = written t n
leaf_by t n (Some k.ConstructorCall) = created t n
-- classes that are declared
leaf_by t n (Some k.ClassDeclaration) = Return (declared_class t n)
leaf_by t n (Some k.EnumDeclaration) = Return (declared_class t n)
leaf_by t n (Some k.RecordDeclaration) = Return (declared_class t n)
leaf_by t n (Some k.AnnotationTypeDeclaration) = Return (declared_class t n)
leaf_by t n (Some k.AnonymousClassDeclaration) = Return (declared_class t n)
-- Every other node has none that is told here: calls, lambda expressions, method references, switch expressions, initializers of arrays, patterns, methods, constructors, type parameters,
-- and what is neither an expression nor a declaration.
leaf_by t n other = Return Unknown
