-- The methods among which that of a call is chosen (JLS 15.12.1, 15.12.2.1), and the constructors (JLS 15.9.3, 8.8.7.1). Classes are asked of an oracle that answers those of the file too.
use Rattle.std.specs.Prelude.{ℕ, Option, None, Some, if◌then◌else◌, List, [], ◌∷◌, codes}
use Rattle.pj_tree.specs.Tree.{Tree, kind_of}
use Rattle.pj_tree.specs.Words.{has, words_of}
use Rattle.pj_tree.specs.declared.kind.Kind.{Kind}
use Rattle.pj_tree.specs.declared.kind.Kind.TheVariants as k
use Rattle.pj_tree.specs.declared.node.Node.{Node}
use Rattle.pj_names.specs.ClassName.{Name, is_class_name}
use Rattle.pj_names.specs.JavaType.{JavaType, Primitive, Void, Null, Class, Array, Variable, Unknown, NoMore}
use Rattle.pj_names.specs.Asking.{Asking, Return, bind, first_hit, or_else}
use Rattle.pj_types.specs.Members.{FoundMethod}
use Rattle.pj_members.specs.Methods.{methods_named}
use Rattle.pj_members.specs.Receivers.{methods_of_receiver}
use Rattle.pj_declared.specs.Bodies.{class_at}
use Rattle.pj_written.specs.Headers.{class_text}
use Rattle.pj_outer_names.specs.Around.{classes_around}
use Rattle.pj_outer_names.specs.Candidates.{dotted_class, file_classes}
use Rattle.pj_receivers.specs.Receivers.{as_receiver}
use Rattle.pj_scopes.specs.StaticImports.{imported_class, static_imports}
use Rattle.pj_leaf_types.specs.Classes.{declared_class, superclass_of}
use Rattle.pj_leaf_types.specs.Written.{created}
use Rattle.pj_calls.specs.Nodes.{name_of}

-- The methods, of which there are some, and the type that they are looked for in: that of the receiver, and else the class that has them, without type arguments.
pub record Candidates : Type 0 where
  pub receiver : JavaType
  pub methods : List FoundMethod

abbrev pub if_any : JavaType → List FoundMethod → Option Candidates
if_any receiver [] = None
if_any receiver (first ∷ more) = Some (record { receiver = receiver; methods = first ∷ more })

-- ---- of a receiver: only a class has methods, and a type variable those of its bound (JLS 4.4)

abbrev pub methods_of : List ℕ → JavaType → Asking (List FoundMethod)
methods_of name (Primitive prim) = Return []
methods_of name Void = Return []
methods_of name Null = Return []
methods_of name (Class class arguments) = methods_of_receiver class arguments name
methods_of name (Array member) = Return []
methods_of name (Variable variable bound) = Return []
methods_of name Unknown = Return []

abbrev pub of_receiver : List ℕ → JavaType → Asking (Option Candidates)
of_receiver name receiver = bind (methods_of name (as_receiver receiver)) (λ methods. Return (if_any receiver methods))

-- ---- of a class, with its type parameters as they are

abbrev pub of_class : List ℕ → Name → Asking (Option Candidates)
of_class name class = bind (methods_named class name) (λ methods. Return (if_any (Class class NoMore) methods))

-- constructors are those of the class itself (JLS 8.8)
abbrev pub constructors_of : JavaType → Asking (Option Candidates)
constructors_of (Primitive prim) = Return None
constructors_of Void = Return None
constructors_of Null = Return None
constructors_of (Class class arguments) = of_class (codes "<init>") class
constructors_of (Array member) = Return None
constructors_of (Variable variable bound) = Return None
constructors_of Unknown = Return None

module _ (t : Tree) where
  -- ---- without a receiver: the first class that has a method of the name

  -- a class around
  abbrev pub of_around : List ℕ → Node → Asking (Option Candidates)
  of_around name class = if is_class_name (class_text t class) then of_class name (class_text t class) else Return None

  -- from the innermost one outwards (JLS 15.12.1)
  abbrev pub around : List ℕ → Node → Asking (Option Candidates)
  around name n = first_hit (of_around name) (classes_around t n)

  -- the class that a static import names (JLS 7.5.3, 7.5.4)
  abbrev pub of_named : List ℕ → Option Name → Asking (Option Candidates)
  of_named name None = Return None
  of_named name (Some class) = of_class name class

  abbrev pub of_import : List ℕ → Node → Asking (Option Candidates)
  of_import name import = bind (dotted_class (file_classes t) (imported_class t import)) (λ class. of_named name class)

  -- those of the name first, and then those on demand
  abbrev pub imported : List ℕ → Asking (Option Candidates)
  imported name = first_hit (of_import name) (static_imports t name)

  abbrev pub unqualified : List ℕ → Node → Asking (Option Candidates)
  unqualified name n = bind (around name n) (λ hit. or_else hit (imported name))

  abbrev pub method_candidates : Node → Option JavaType → Asking (Option Candidates)
  method_candidates n None = unqualified (name_of t n) n
  method_candidates n (Some receiver) = of_receiver (name_of t n) receiver

  -- ---- constructors

  -- of the class that a `new` writes (JLS 15.9.3)
  abbrev pub created_constructors : Node → Asking (Option Candidates)
  created_constructors n = bind (created t n) (λ ty. constructors_of ty)

  -- of the class around (`this`), or of its superclass (`super`)
  abbrev pub invoked_in : Node → Option Node → Asking JavaType
  invoked_in n None = Return Unknown
  invoked_in n (Some class) = if has (codes "super") (words_of t n) then superclass_of t class else Return (declared_class t class)

  abbrev pub invoked_constructors : Node → Asking (Option Candidates)
  invoked_constructors n = bind (invoked_in n (class_at t n)) (λ ty. constructors_of ty)

  -- ---- by the kind of the call, and by the type of the receiver where it has one

  abbrev pub candidates_by : Node → Option Kind → Option JavaType → Asking (Option Candidates)
  candidates_by n (Some k.MethodCall) receiver = method_candidates n receiver
  candidates_by n (Some k.ConstructorCall) receiver = created_constructors n
  candidates_by n (Some k.ExplicitConstructorInvocation) receiver = invoked_constructors n
  candidates_by n other receiver = Return None

  abbrev pub candidates_of : Node → Option JavaType → Asking (Option Candidates)
  candidates_of n receiver = candidates_by n (kind_of t n) receiver
