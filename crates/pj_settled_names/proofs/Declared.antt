-- What a class of a file answers comes to something in a world that finds finitely many classes.
use Rattle.std.specs.Prelude.{ℕ, if◌then◌else◌, List, [], ◌∷◌, length, Option, None, Some}
use Rattle.pj_names.specs.Asking.{ask}
use Rattle.pj_names.specs.ClassName.{Name}
use Rattle.pj_names.specs.JavaType.{JavaType, Class}
use Rattle.pj_tree.specs.Kinds.{is_kind}
use Rattle.pj_tree.specs.Tree.{Tree, kind_of}
use Rattle.pj_tree.specs.declared.kind.Kind.{Kind}
use Rattle.pj_tree.specs.declared.kind.Kind.TheVariants as k
use Rattle.pj_tree.specs.declared.node.Node.{Node}
use Rattle.pj_written.specs.Flags.{field_flags, formal_parameters}
use Rattle.pj_written.specs.Headers.{bounds_of, created, extended, implemented, is_constant_body, parameters_of}
use Rattle.pj_written.specs.Spelling.{class_signature_text}
use Rattle.pj_written.specs.Words.{is_regular_interface, own_brackets, type_child}
use Rattle.pj_outer_names.specs.Candidates.{file_classes, node_named}
use Rattle.pj_type_names.specs.TypeName.{written_bound, written_type}
use Rattle.pj_file_oracle.specs.FileAnswer.{answer_by, class_answer, file_answer, found_with, header_within}
use Rattle.pj_file_oracle.specs.Members.{all_members, argument_of, argument_types, body_nodes, declarators, field_of, field_with, fields_alone, fields_of, member_by, member_lists, members_of, method_alone, method_of, method_with, one_method, only_fields, result_of, variable_brackets}
use Rattle.pj_file_oracle.specs.Supertypes.{as_interface, as_superclass, as_supertype, asked_interface, by_type, created_supertypes, extended_types, implemented_types, interface_by, is_interface_answer, is_interface_type, is_of_object, named_supertypes, only_interfaces, supertype, supertypes_of, with_interfaces}
use Rattle.pj_file_oracle.specs.Types.{declared_type, parameter_of, parameter_with, type_or_unknown, type_parameters}
use Rattle.pj_settling.specs.Settling.{FindsFinitely, Settles, World}
use Rattle.pj_settling.proofs.Settled.{after, asked, by_test, for_each, given, made_by}
use Rattle.pj_settled_names.proofs.Headers.{written_bound_settles, written_type_settles}

module _ {world : World} (finite : FindsFinitely world) (t : Tree) where
  -- ---- types

  pub type_or_unknown_settles : (behind : ℕ) (n : Option Node) → Settles world (type_or_unknown t behind n)
  type_or_unknown_settles behind None = given _
  type_or_unknown_settles behind (Some n) = written_type_settles finite t [] behind n

  pub declared_type_settles : (behind : ℕ) (n : Node) → Settles world (declared_type t behind n)
  unfolding declared_type
  declared_type_settles behind n = type_or_unknown_settles behind (type_child t n)

  parameter_settles : (busy : List ℕ) (n : Node) → Settles world (parameter_of t busy n)
  unfolding parameter_of
  parameter_settles busy n = made_by (parameter_with t n) (for_each {m = written_bound t busy} (written_bound_settles finite t busy) (bounds_of t n))

  parameters_settle : (busy : List ℕ) (n : Node) → Settles world (type_parameters t busy n)
  parameters_settle busy n = for_each {m = parameter_of t busy} (parameter_settles busy) (parameters_of t n)

  -- ---- supertypes

  pub supertype_settles : (busy : List ℕ) (n : Node) → Settles world (supertype t busy n)
  unfolding supertype
  supertype_settles busy n = made_by {m = written_type t busy 0 n} as_supertype (written_type_settles finite t busy 0 n)

  extended_settle : (busy : List ℕ) (class : Node) → Settles world (extended_types t busy class)
  extended_settle busy class = for_each {m = supertype t busy} (supertype_settles busy) (extended t class)

  implemented_settle : (busy : List ℕ) (class : Node) → Settles world (implemented_types t busy class)
  implemented_settle busy class = for_each {m = supertype t busy} (supertype_settles busy) (implemented t class)

  named_settle : (busy : List ℕ) (class : Node) → Settles world (named_supertypes t busy class)
  named_settle busy class =
      by_test (is_regular_interface t class) (made_by {m = extended_types t busy class} only_interfaces (extended_settle busy class))
      (after (extended_settle busy class) (λ above. made_by {m = implemented_types t busy class} (with_interfaces t class above) (implemented_settle busy class)))

  asked_interface_settles : (name : Name) → Settles world (asked_interface name)
  asked_interface_settles name = by_test (is_of_object name) (given _) (made_by {m = ask name} is_interface_answer (asked name))

  interface_by_settles : (name : Name) (class : Option Node) → Settles world (interface_by t name class)
  interface_by_settles name None = asked_interface_settles name
  interface_by_settles name (Some class) = given _

  pub interface_type_settles : (ty : JavaType) → Settles world (is_interface_type t ty)
  interface_type_settles (Class name arguments) = interface_by_settles name (node_named (file_classes t) name)
  interface_type_settles other = given _

  by_type_settles : (ty : JavaType) → Settles world (by_type t ty)
  by_type_settles ty = made_by {m = is_interface_type t ty} (λ interface. if interface then as_interface ty else as_superclass ty) (interface_type_settles ty)

  created_settle : (busy : List ℕ) (n : Option Node) → Settles world (created_supertypes t busy n)
  created_settle busy None = given _
  created_settle busy (Some n) = after (supertype_settles busy n) by_type_settles

  supertypes_settle : (busy : List ℕ) (class : Node) → Settles world (supertypes_of t busy class)
  supertypes_settle busy class =
      by_test (is_kind t k.AnonymousClassDeclaration class) (by_test (is_constant_body t class) (given _) (created_settle busy (created t class)))
      (by_test (is_kind t k.AnnotationTypeDeclaration class) (given _) (named_settle busy class))

  -- ---- members

  field_settles : (declaration declarator : Node) → Settles world (field_of t declaration declarator)
  field_settles declaration declarator =
      made_by {m = declared_type t (variable_brackets t declarator) declaration} (field_with t (field_flags t declaration) declarator) (declared_type_settles (variable_brackets t declarator) declaration)

  fields_alone_settle : (n : Node) → Settles world (fields_alone t n)
  fields_alone_settle n = made_by {m = fields_of t n} only_fields (for_each {m = field_of t n} (field_settles n) (declarators t n))

  arguments_settle : (n : Node) → Settles world (argument_types t n)
  arguments_settle n = for_each {m = argument_of t} (λ parameter. declared_type_settles (variable_brackets t parameter) parameter) (formal_parameters t n)

  result_settles : (n : Node) → Settles world (result_of t n)
  result_settles n = by_test (is_kind t k.ConstructorDeclaration n) (given _) (declared_type_settles (length (own_brackets t n)) n)

  method_settles : (n : Node) → Settles world (method_of t n)
  method_settles n =
      after (parameters_settle [] n) (λ parameters.
      after (arguments_settle n) (λ arguments.
      made_by {m = result_of t n} (method_with t n parameters arguments) (result_settles n)))

  method_alone_settles : (n : Node) → Settles world (method_alone t n)
  method_alone_settles n = made_by {m = method_of t n} one_method (method_settles n)

  member_settles : (class n : Node) (kind : Option Kind) → Settles world (member_by t class n kind)
  member_settles class n (Some k.FieldDeclaration) = fields_alone_settle n
  member_settles class n (Some k.EnumConstant) = given _
  member_settles class n (Some k.MethodDeclaration) = method_alone_settles n
  member_settles class n (Some k.ConstructorDeclaration) = method_alone_settles n
  member_settles class n other = given _

  members_settle : (class : Node) → Settles world (members_of t class)
  members_settle class = made_by all_members (for_each {m = member_lists t class} (λ n. member_settles class n (kind_of t n)) (body_nodes t class))

  -- ---- the answer

  header_settles : (busy : List ℕ) (class : Node) → Settles world (header_within t busy class)
  header_settles busy class =
      after (parameters_settle busy class) (λ parameters.
      made_by {m = supertypes_of t busy class} (λ types. class_signature_text parameters types.superclass types.interfaces) (supertypes_settle busy class))

  class_answer_settles : (name : Name) (class : Node) → Settles world (class_answer t name class)
  unfolding class_answer
  class_answer_settles name class =
      after (header_settles (class.0 ∷ []) class) (λ signature. made_by {m = members_of t class} (found_with t name class signature) (members_settle class))

  answer_settles : (name : Name) (class : Option Node) → Settles world (answer_by t name class)
  answer_settles name None = asked name
  answer_settles name (Some class) = class_answer_settles name class

  pub file_answer_settles : (name : Name) → Settles world (file_answer t name)
  file_answer_settles name = answer_settles name (node_named (file_classes t) name)
