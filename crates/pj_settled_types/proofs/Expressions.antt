-- The type of a node comes to something in a world that finds finitely many classes.
use Rattle.std.specs.Prelude.{ℕ, zero, suc, ◌==◌, List, [], ◌∷◌, length, Option, None, Some}
use Rattle.std.specs.Option.{option_map}
use Rattle.pj_names.specs.Asking.{Asking}
use Rattle.pj_names.specs.JavaType.{JavaType}
use Rattle.pj_tree.specs.Tree.{Tree, kind_of}
use Rattle.pj_tree.specs.Words.{first_of, last_of, words_of}
use Rattle.pj_tree.specs.declared.kind.Kind.{Kind}
use Rattle.pj_tree.specs.declared.kind.Kind.TheVariants as k
use Rattle.pj_tree.specs.declared.node.Node.{Node}
use Rattle.pj_file_oracle.specs.Types.{declared_type}
use Rattle.pj_leaf_types.specs.Variables.{is_var, statement_of}
use Rattle.pj_calls.specs.Calls.{chosen}
use Rattle.pj_calls.specs.Candidates.{candidates_of}
use Rattle.pj_calls.specs.Nodes.{arguments_of, functions_of}
use Rattle.pj_scopes.specs.VariableName.{variable_name}
use Rattle.pj_exprtypes.specs.Calls.{call_with, receiver_in, typing_of}
use Rattle.pj_exprtypes.specs.Chosen.{chosen_pair, pair_of as chosen_as_pair}
use Rattle.pj_exprtypes.specs.Declarations.{declaration_type, var_by, var_type}
use Rattle.pj_exprtypes.specs.Expressions.{branches_with, expression_with, only, pair_of}
use Rattle.pj_exprtypes.specs.Names.{access_type, meant_type}
use Rattle.pj_exprtypes.specs.Operands.{operands, var_operands}
use Rattle.pj_exprtypes.specs.TypeOf.{deep, earlier, final_type, type_of, type_with, typed, whole_type}
use Rattle.pj_exprtypes.specs.Typing.{Typing, Known, OfVar, OfWritten, OfCall, known}
use Rattle.pj_settling.specs.Settling.{FindsFinitely, Settles, World}
use Rattle.pj_settling.proofs.Settled.{after, by_test, for_each, given, made_by}
use Rattle.pj_settled_members.proofs.Choosing.{conditional_settles}
use Rattle.pj_settled_names.proofs.Declared.{declared_type_settles}
use Rattle.pj_settled_types.proofs.Behind.{field_of_settles, iterated_settles, variable_name_settles}
use Rattle.pj_settled_types.proofs.Calls.{candidates_settle, chosen_result_settles, chosen_settles}
use Rattle.pj_settled_types.proofs.Leaves.{declared_by_settles, leaf_settles}

module _ {world : World} (finite : FindsFinitely world) (t : Tree) where
  known_settles : {m : Asking JavaType} → Settles world m → Settles world (known m)
  known_settles {m = m} h = made_by {m = m} (λ ty. Known ty) h

  -- ---- declarations

  declaration_settles : (declaration : Node) → Settles world (declaration_type t declaration)
  declaration_settles declaration =
      by_test (is_var t declaration) (given _) (known_settles {m = declared_type t 0 declaration} (declared_type_settles finite t 0 declaration))

  -- ---- names, calls and expressions

  access_settles : (n : Node) → Settles world (access_type t n)
  access_settles n = made_by {m = variable_name t n (first_of (words_of t n))} (meant_type t n) (variable_name_settles finite t n (first_of (words_of t n)))

  call_settles : (n : Node) (types : List JavaType) → Settles world (call_with t n types)
  call_settles n types = made_by {m = candidates_of t n (receiver_in types)} typing_of (candidates_settle finite t n (receiver_in types))

  branches_settle : (pair : Option (JavaType × JavaType)) → Settles world (branches_with pair)
  branches_settle None = given _
  branches_settle (Some pair) = conditional_settles finite pair.0 pair.1

  expression_settles : (n : Node) (kind : Option Kind) (types : List JavaType) → Settles world (expression_with t n kind types)
  expression_settles n (Some k.FieldAccess) types = field_of_settles finite t (last_of [] (words_of t n)) (only types)
  expression_settles n (Some k.InfixExpression) types = given _
  expression_settles n (Some k.UnaryExpression) types = given _
  expression_settles n (Some k.AssignmentExpression) types = given _
  expression_settles n (Some k.ConditionalExpression) types = branches_settle (pair_of types)
  expression_settles n (Some k.ArrayAccess) types = given _
  expression_settles n other types = leaf_settles finite t n other

  typing_settles : (n : Node) (kind : Option Kind) (types : List JavaType) → Settles world (type_with t n kind types)
  typing_settles n (Some k.VariableAccess) types = access_settles n
  typing_settles n (Some k.MethodCall) types = call_settles n types
  typing_settles n (Some k.VariableId) types = given _
  typing_settles n (Some k.VariableDeclarator) types = given _
  typing_settles n (Some k.FormalParameter) types = given _
  typing_settles n (Some k.LambdaParameter) types = given _
  typing_settles n (Some k.CatchParameter) types = given _
  typing_settles n (Some k.RecordComponent) types = given _
  typing_settles n (Some k.EnumConstant) types = given _
  typing_settles n (Some k.FieldDeclaration) types = declaration_settles n
  typing_settles n (Some k.LocalVariableDeclaration) types = declaration_settles n
  typing_settles n other types = known_settles {m = expression_with t n other types} (expression_settles n other types)

  -- ---- nodes, by what variables and nodes are

  module _ (var : Node → Asking JavaType) (var_settles : (id : Node) → Settles world (var id)) where
    module _ (inner : Node → Asking JavaType) (settle : (n : Node) → Settles world (inner n)) where
      final_settles : (n : Node) (found : Typing) → Settles world (final_type t var inner n found)
      final_settles n (Known ty) = given _
      final_settles n (OfVar id) = var_settles id
      final_settles n (OfWritten id declaration) = declared_by_settles finite t id declaration
      final_settles n (OfCall candidates) = after (for_each {m = inner} settle (arguments_of t n)) (λ types. chosen_result_settles finite candidates types (functions_of t n))

      whole_settles : (n : Node) → Settles world (whole_type t var inner n)
      whole_settles n = after (for_each {m = inner} settle (operands t n)) (λ types. after (typing_settles n (kind_of t n) types) (final_settles n))

    typed_settles : (left : ℕ) (n : Node) → Settles world (typed t var left n)
    unfolding typed
    typed_settles zero n = given _
    typed_settles (suc left) n = whole_settles (typed t var left) (typed_settles left) n

  -- ---- variables that are declared by `var`

  var_by_settles : (statement : Option Node) (ty : JavaType) → Settles world (var_by t statement ty)
  var_by_settles None ty = given _
  var_by_settles (Some statement) ty = iterated_settles finite ty

  var_type_settles : (inner : Node → Asking JavaType) → ((n : Node) → Settles world (inner n)) → (id : Node) → Settles world (var_type t inner id)
  var_type_settles inner settle id = after (for_each {m = inner} settle (var_operands t id)) (λ types. var_by_settles (statement_of t id) (only types))

  earlier_settles : (last : ℕ) (id : Node) → Settles world (earlier t last id)
  unfolding earlier
  earlier_settles zero id = given _
  earlier_settles (suc last) id =
      by_test (id.0 == last) (var_type_settles (typed t (earlier t last) (deep t)) (typed_settles (earlier t last) (λ other. earlier_settles last other) (deep t)) id) (earlier_settles last id)

  -- ---- the whole

  pub type_settles : (n : Node) → Settles world (type_of t n)
  type_settles n = typed_settles (earlier t (length t.nodes)) (earlier_settles (length t.nodes)) (deep t) n

  pub pair_settles : (n : Node) → Settles world (chosen_pair t n)
  pair_settles n = made_by {m = chosen t (type_of t) n} (option_map chosen_as_pair) (chosen_settles finite t (type_of t) type_settles n)
