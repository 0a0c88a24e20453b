-- Classes that are declared, `this` and `super` (JLS 15.8.3, 15.8.4, 15.11.2).
use Rattle.std.specs.Prelude.{ℕ, Bool, Option, None, Some, if◌then◌else◌, List, [], ◌∷◌}
use Rattle.std.specs.Option.{option_and_then, option_map_or}
use Rattle.pj_tree.specs.Tree.{Tree}
use Rattle.pj_tree.specs.Children.{child_of, first_child, has_child}
use Rattle.pj_tree.specs.Kinds.{is_kind}
use Rattle.pj_tree.specs.declared.kind.Kind.TheVariants as k
use Rattle.pj_tree.specs.declared.node.Node.{Node}
use Rattle.pj_names.specs.JavaType.{JavaType, Class, NoMore, Unknown}
use Rattle.pj_names.specs.Asking.{Asking, Return, bind}
use Rattle.pj_declared.specs.Bodies.{class_at}
use Rattle.pj_written.specs.Headers.{class_text, created, is_constant_body}
use Rattle.pj_written.specs.Types.{class_of_text, object_type}
use Rattle.pj_written.specs.Words.{is_interface}
use Rattle.pj_type_names.specs.TypeName.{written_type}
use Rattle.pj_file_oracle.specs.Supertypes.{enum_type, implied_superclass, is_interface_type, supertype}

-- the class of a type, without arguments; what is no class is not known
abbrev pub class_alone : JavaType → JavaType
class_alone (Class name arguments) = Class name NoMore
class_alone other = Unknown

-- a type, or `java.lang.Object` in the place of an interface
abbrev pub unless_interface : JavaType → Bool → JavaType
unless_interface ty is = if is then object_type else ty

module _ (t : Tree) where
  -- a class that the file declares, without arguments
  abbrev pub declared_class : Node → JavaType
  declared_class class = class_of_text (class_text t class)

  abbrev pub class_or_unknown : Option Node → JavaType
  class_or_unknown class = option_map_or declared_class class Unknown

  -- ---- `this`: the class that is named, and else the innermost class around; both without arguments

  abbrev pub named_class : Node → Asking JavaType
  named_class name = bind (written_type t [] 0 name) (λ ty. Return (class_alone ty))

  abbrev pub this_by : Node → Option Node → Asking JavaType
  this_by n None = Return (class_or_unknown (class_at t n))
  this_by n (Some name) = named_class name

  abbrev pub this_type : Node → Asking JavaType
  this_type n = this_by n (child_of t n k.ClassType)

  -- ---- `super`: the superclass of the innermost class around, which is resolved as in that class's header

  -- that of an anonymous class is the type of its `new`, unless that is an interface (JLS 15.9.5)
  abbrev pub created_superclass : List ℕ → Option Node → Asking JavaType
  created_superclass busy None = Return object_type
  created_superclass busy (Some n) = bind (supertype t busy n) (λ ty. bind (is_interface_type t ty) (λ is. Return (unless_interface ty is)))

  -- the body of an enum constant has the enum (JLS 8.9.1)
  abbrev pub anonymous_superclass : Node → Asking JavaType
  anonymous_superclass class =
      if is_constant_body t class then Return (enum_type t class) else created_superclass (class.0 ∷ []) (created t class)

  -- that of a class with a name is the type behind `extends`, and without one the implied one (JLS 8.1.4, 8.9, 8.10)
  abbrev pub written_superclass : Node → Option Node → Asking JavaType
  written_superclass class None = Return (implied_superclass t class)
  written_superclass class (Some n) = supertype t (class.0 ∷ []) n

  abbrev pub extended_type : Node → Option Node
  extended_type class = option_and_then (first_child t) (child_of t class k.ExtendsList)

  -- that of an interface is `java.lang.Object` (JVMS 4.1)
  abbrev pub superclass_of : Node → Asking JavaType
  superclass_of class =
      if is_kind t k.AnonymousClassDeclaration class then anonymous_superclass class
      else if is_interface t class then Return object_type
      else written_superclass class (extended_type class)

  abbrev pub superclass_or_unknown : Option Node → Asking JavaType
  superclass_or_unknown None = Return Unknown
  superclass_or_unknown (Some class) = superclass_of class

  -- `A.super` is not looked at
  abbrev pub super_type : Node → Asking JavaType
  super_type n = if has_child t n k.ClassType then Return Unknown else superclass_or_unknown (class_at t n)
