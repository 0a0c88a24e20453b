-- Types that are told without the types of others come to something in a world that finds finitely many classes.
use Rattle.std.specs.Prelude.{ℕ, if◌then◌else◌, List, [], ◌∷◌, length, Option, None, Some}
use Rattle.std.specs.Option.{option_and_then}
use Rattle.pj_tree.specs.Children.{child_of, first_child, has_child}
use Rattle.pj_tree.specs.Kinds.{is_kind}
use Rattle.pj_tree.specs.Tree.{Tree}
use Rattle.pj_tree.specs.declared.kind.Kind.{Kind}
use Rattle.pj_tree.specs.declared.kind.Kind.TheVariants as k
use Rattle.pj_tree.specs.declared.node.Node.{Node}
use Rattle.pj_declared.specs.Bodies.{class_at}
use Rattle.pj_operators.specs.Literals.{class_literal}
use Rattle.pj_written.specs.Headers.{created as created_node, is_constant_body}
use Rattle.pj_written.specs.Words.{is_interface, own_brackets, type_child}
use Rattle.pj_type_names.specs.TypeName.{written_type}
use Rattle.pj_file_oracle.specs.Supertypes.{is_interface_type}
use Rattle.pj_leaf_types.specs.Classes.{anonymous_superclass, class_alone, created_superclass, extended_type, super_type, superclass_of, superclass_or_unknown, this_by, unless_interface, written_superclass}
use Rattle.pj_leaf_types.specs.Leaves.{leaf_by}
use Rattle.pj_leaf_types.specs.Variables.{declared_by}
use Rattle.pj_leaf_types.specs.Written.{cast, created, first_of_several, literal_of, written}
use Rattle.pj_settling.specs.Settling.{FindsFinitely, Settles, World}
use Rattle.pj_settling.proofs.Settled.{after, by_test, given, made_by}
use Rattle.pj_settled_names.proofs.Declared.{declared_type_settles, interface_type_settles, supertype_settles, type_or_unknown_settles}
use Rattle.pj_settled_names.proofs.Headers.{written_type_settles}

module _ {world : World} (finite : FindsFinitely world) (t : Tree) where
  -- ---- classes

  this_by_settles : (n : Node) (name : Option Node) → Settles world (this_by t n name)
  this_by_settles n None = given _
  this_by_settles n (Some name) = made_by {m = written_type t [] 0 name} class_alone (written_type_settles finite t [] 0 name)

  created_superclass_settles : (busy : List ℕ) (n : Option Node) → Settles world (created_superclass t busy n)
  created_superclass_settles busy None = given _
  created_superclass_settles busy (Some n) =
      after (supertype_settles finite t busy n) (λ ty. made_by {m = is_interface_type t ty} (unless_interface ty) (interface_type_settles finite t ty))

  anonymous_settles : (class : Node) → Settles world (anonymous_superclass t class)
  anonymous_settles class = by_test (is_constant_body t class) (given _) (created_superclass_settles (class.0 ∷ []) (created_node t class))

  written_superclass_settles : (class : Node) (n : Option Node) → Settles world (written_superclass t class n)
  written_superclass_settles class None = given _
  written_superclass_settles class (Some n) = supertype_settles finite t (class.0 ∷ []) n

  pub superclass_settles : (class : Node) → Settles world (superclass_of t class)
  superclass_settles class =
      by_test (is_kind t k.AnonymousClassDeclaration class) (anonymous_settles class) (by_test (is_interface t class) (given _) (written_superclass_settles class (extended_type t class)))

  superclass_or_unknown_settles : (class : Option Node) → Settles world (superclass_or_unknown t class)
  superclass_or_unknown_settles None = given _
  superclass_or_unknown_settles (Some class) = superclass_settles class

  super_settles : (n : Node) → Settles world (super_type t n)
  super_settles n = by_test (has_child t n k.ClassType) (given _) (superclass_or_unknown_settles (class_at t n))

  -- ---- types that are written

  written_settles : (n : Node) → Settles world (written t n)
  written_settles n = type_or_unknown_settles finite t 0 (type_child t n)

  pub created_settles : (n : Node) → Settles world (created t n)
  created_settles n = type_or_unknown_settles finite t 0 (child_of t n k.ClassType)

  cast_settles : (n : Node) → Settles world (cast t n)
  cast_settles n = type_or_unknown_settles finite t 0 (option_and_then (first_of_several t) (first_child t n))

  literal_settles : (n : Node) → Settles world (literal_of t n)
  literal_settles n = made_by {m = written t n} class_literal (written_settles n)

  pub declared_by_settles : (id declaration : Node) → Settles world (declared_by t id declaration)
  declared_by_settles id declaration = by_test (is_kind t k.EnumConstant declaration) (given _) (declared_type_settles finite t (length (own_brackets t id)) declaration)

  -- ---- leaves

  pub leaf_settles : (n : Node) (kind : Option Kind) → Settles world (leaf_by t n kind)
  leaf_settles n (Some k.NumericLiteral) = given _
  leaf_settles n (Some k.StringLiteral) = given _
  leaf_settles n (Some k.CharLiteral) = given _
  leaf_settles n (Some k.BooleanLiteral) = given _
  leaf_settles n (Some k.NullLiteral) = given _
  leaf_settles n (Some k.ClassLiteral) = literal_settles n
  leaf_settles n (Some k.ThisExpression) = this_by_settles n (child_of t n k.ClassType)
  leaf_settles n (Some k.SuperExpression) = super_settles n
  leaf_settles n (Some k.CastExpression) = cast_settles n
  leaf_settles n (Some k.ArrayAllocation) = written_settles n
  leaf_settles n (Some k.TypeExpression) = written_settles n
  leaf_settles n (Some k.ConstructorCall) = created_settles n
  leaf_settles n (Some k.ClassDeclaration) = given _
  leaf_settles n (Some k.EnumDeclaration) = given _
  leaf_settles n (Some k.RecordDeclaration) = given _
  leaf_settles n (Some k.AnnotationTypeDeclaration) = given _
  leaf_settles n (Some k.AnonymousClassDeclaration) = given _
  leaf_settles n other = given _
