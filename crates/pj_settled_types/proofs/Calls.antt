-- The candidates of a call, and the one that is chosen, come to something in a world that finds finitely many classes.
use Rattle.std.specs.Prelude.{ℕ, List, [], ◌∷◌, codes, Option, None, Some}
use Rattle.pj_names.specs.Asking.{Asking}
use Rattle.pj_names.specs.ClassName.{Name, is_class_name}
use Rattle.pj_names.specs.JavaType.{JavaType, Primitive, Void, Null, Class, Array, Variable, Unknown, NoMore}
use Rattle.pj_tree.specs.Tree.{Tree, kind_of}
use Rattle.pj_tree.specs.Words.{has, words_of}
use Rattle.pj_tree.specs.declared.kind.Kind.{Kind}
use Rattle.pj_tree.specs.declared.kind.Kind.TheVariants as k
use Rattle.pj_tree.specs.declared.node.Node.{Node}
use Rattle.pj_declared.specs.Bodies.{class_at}
use Rattle.pj_members.specs.Methods.{methods_named}
use Rattle.pj_written.specs.Headers.{class_text}
use Rattle.pj_outer_names.specs.Around.{classes_around}
use Rattle.pj_outer_names.specs.Candidates.{file_classes}
use Rattle.pj_overload.specs.Choosing.{choose}
use Rattle.pj_receivers.specs.Receivers.{as_receiver}
use Rattle.pj_scopes.specs.StaticImports.{imported_class, static_imports}
use Rattle.pj_calls.specs.Calls.{chosen, chosen_with, type_if_any}
use Rattle.pj_calls.specs.Candidates.{Candidates, candidates_by, candidates_of, constructors_of, created_constructors, if_any, imported, invoked_constructors, invoked_in, method_candidates, methods_of, of_around, of_class, of_import, of_named, of_receiver, unqualified}
use Rattle.pj_calls.specs.Choosing.{chosen_among, chosen_by}
use Rattle.pj_calls.specs.Nodes.{arguments_of, functions_of, name_of, receiver_of}
use Rattle.pj_calls.specs.Results.{chosen_result, result_or_unknown}
use Rattle.pj_settling.specs.Settling.{FindsFinitely, Settles, World}
use Rattle.pj_settling.proofs.Settled.{after, by_test, first_of, for_each, given, made_by, or_rest}
use Rattle.pj_settled_members.proofs.Choosing.{choose_settles}
use Rattle.pj_settled_members.proofs.Members.{methods_named_settle}
use Rattle.pj_settled_members.proofs.Receivers.{methods_of_receiver_settle}
use Rattle.pj_settled_names.proofs.Outside.{dotted_class_settles}
use Rattle.pj_settled_types.proofs.Leaves.{created_settles, superclass_settles}

module _ {world : World} (finite : FindsFinitely world) where
  methods_settle : (name : List ℕ) (ty : JavaType) → Settles world (methods_of name ty)
  methods_settle name (Primitive prim) = given _
  methods_settle name Void = given _
  methods_settle name Null = given _
  methods_settle name (Class class arguments) = methods_of_receiver_settle finite class arguments name
  methods_settle name (Array member) = given _
  methods_settle name (Variable variable bound) = given _
  methods_settle name Unknown = given _

  of_receiver_settles : (name : List ℕ) (receiver : JavaType) → Settles world (of_receiver name receiver)
  of_receiver_settles name receiver = made_by {m = methods_of name (as_receiver receiver)} (if_any receiver) (methods_settle name (as_receiver receiver))

  of_class_settles : (name : List ℕ) (class : Name) → Settles world (of_class name class)
  of_class_settles name class = made_by {m = methods_named class name} (if_any (Class class NoMore)) (methods_named_settle finite class name)

  constructors_settle : (ty : JavaType) → Settles world (constructors_of ty)
  constructors_settle (Primitive prim) = given _
  constructors_settle Void = given _
  constructors_settle Null = given _
  constructors_settle (Class class arguments) = of_class_settles (codes "<init>") class
  constructors_settle (Array member) = given _
  constructors_settle (Variable variable bound) = given _
  constructors_settle Unknown = given _

  -- ---- the choice

  pub chosen_among_settles : (candidates : Candidates) (types : List JavaType) (functions : List ℕ) → Settles world (chosen_among candidates types functions)
  chosen_among_settles candidates types functions = made_by {m = choose candidates.methods types functions} (chosen_by candidates types) (choose_settles finite candidates.methods types functions)

  pub chosen_result_settles : (candidates : Candidates) (types : List JavaType) (functions : List ℕ) → Settles world (chosen_result candidates types functions)
  chosen_result_settles candidates types functions = made_by {m = chosen_among candidates types functions} result_or_unknown (chosen_among_settles candidates types functions)

  module _ (t : Tree) where
    of_around_settles : (name : List ℕ) (class : Node) → Settles world (of_around t name class)
    of_around_settles name class = by_test (is_class_name (class_text t class)) (of_class_settles name (class_text t class)) (given _)

    of_named_settles : (name : List ℕ) (class : Option Name) → Settles world (of_named t name class)
    of_named_settles name None = given _
    of_named_settles name (Some class) = of_class_settles name class

    of_import_settles : (name : List ℕ) (import : Node) → Settles world (of_import t name import)
    of_import_settles name import = after (dotted_class_settles (file_classes t) (imported_class t import)) (of_named_settles name)

    unqualified_settles : (name : List ℕ) (n : Node) → Settles world (unqualified t name n)
    unqualified_settles name n =
        after (first_of {m = of_around t name} (of_around_settles name) (classes_around t n))
        (λ hit. or_rest hit {rest = imported t name} (first_of {m = of_import t name} (of_import_settles name) (static_imports t name)))

    method_candidates_settle : (n : Node) (receiver : Option JavaType) → Settles world (method_candidates t n receiver)
    method_candidates_settle n None = unqualified_settles (name_of t n) n
    method_candidates_settle n (Some receiver) = of_receiver_settles (name_of t n) receiver

    created_constructors_settle : (n : Node) → Settles world (created_constructors t n)
    created_constructors_settle n = after (created_settles finite t n) constructors_settle

    invoked_in_settles : (n : Node) (class : Option Node) → Settles world (invoked_in t n class)
    invoked_in_settles n None = given _
    invoked_in_settles n (Some class) = by_test (has (codes "super") (words_of t n)) (superclass_settles finite t class) (given _)

    invoked_constructors_settle : (n : Node) → Settles world (invoked_constructors t n)
    invoked_constructors_settle n = after (invoked_in_settles n (class_at t n)) constructors_settle

    by_kind_settles : (n : Node) (kind : Option Kind) (receiver : Option JavaType) → Settles world (candidates_by t n kind receiver)
    by_kind_settles n (Some k.MethodCall) receiver = method_candidates_settle n receiver
    by_kind_settles n (Some k.ConstructorCall) receiver = created_constructors_settle n
    by_kind_settles n (Some k.ExplicitConstructorInvocation) receiver = invoked_constructors_settle n
    by_kind_settles n other receiver = given _

    pub candidates_settle : (n : Node) (receiver : Option JavaType) → Settles world (candidates_of t n receiver)
    candidates_settle n receiver = by_kind_settles n (kind_of t n) receiver

    -- ---- by what the types of nodes are

    module _ (type_of : Node → Asking JavaType) (settle : (n : Node) → Settles world (type_of n)) where
      if_any_settles : (n : Option Node) → Settles world (type_if_any t type_of n)
      if_any_settles None = given _
      if_any_settles (Some n) = made_by {m = type_of n} (λ ty. Some ty) (settle n)

      chosen_with_settles : (n : Node) (candidates : Option Candidates) → Settles world (chosen_with t type_of n candidates)
      chosen_with_settles n None = given _
      chosen_with_settles n (Some candidates) = after (for_each {m = type_of} settle (arguments_of t n)) (λ types. chosen_among_settles candidates types (functions_of t n))

      pub chosen_settles : (n : Node) → Settles world (chosen t type_of n)
      chosen_settles n = after (if_any_settles (receiver_of t n)) (λ receiver. after (candidates_settle n receiver) (chosen_with_settles n))
