-- The members that a class of the file answers (JVMS 4.5, 4.6): those that its body writes, in the order of the text, and no implied ones. A compact
-- constructor is none of them, since its parameters are not written (JLS 8.10.4.2).
use Rattle.std.specs.Prelude.{ℕ, Option, Some, if◌then◌else◌, List, [], ◌∷◌, ◌++◌, length, filter, codes}
use Rattle.std.specs.Option.{option_map_or}
use Rattle.pj_tree.specs.Tree.{Tree, kind_of, children_of}
use Rattle.pj_tree.specs.declared.kind.Kind.{Kind}
use Rattle.pj_tree.specs.declared.kind.Kind.TheVariants as k
use Rattle.pj_tree.specs.declared.node.Node.{Node}
use Rattle.pj_tree.specs.Children.{child_of}
use Rattle.pj_tree.specs.Kinds.{is_kind}
use Rattle.pj_tree.specs.Words.{words_of, first_of}
use Rattle.pj_names.specs.declared.answer.Member.{Member}
use Rattle.pj_names.specs.JavaType.{JavaType, Void}
use Rattle.pj_names.specs.Asking.{Asking, Return, bind, each}
use Rattle.pj_declared.specs.Bodies.{body_of}
use Rattle.pj_written.specs.Flags.{constant_flags, field_flags, formal_parameters, method_flags}
use Rattle.pj_written.specs.Headers.{class_text}
use Rattle.pj_written.specs.Spelling.{Parameter, method_signature_text, spelled}
use Rattle.pj_written.specs.Types.{class_of_text}
use Rattle.pj_written.specs.Words.{children_or, own_brackets}
use Rattle.pj_file_oracle.specs.declared.members.MemberLists.{MemberLists}
use Rattle.pj_file_oracle.specs.Types.{declared_type, type_parameters}

-- ---- lists of fields and of methods

abbrev pub no_members : MemberLists
no_members = record { fields = []; methods = [] }

abbrev pub one_method : Member → MemberLists
one_method method = record { fields = []; methods = method ∷ [] }

abbrev pub only_fields : List Member → MemberLists
only_fields fields = record { fields = fields; methods = [] }

abbrev pub both_lists : MemberLists → MemberLists → MemberLists
both_lists first second = record { fields = first.fields ++ second.fields; methods = first.methods ++ second.methods }

abbrev pub all_members : List MemberLists → MemberLists
all_members [] = no_members
all_members (lists ∷ rest) = both_lists lists (all_members rest)

module _ (t : Tree) where
  -- ---- names of variables (JLS 8.3): a name stands in a node of its own, with brackets behind it

  abbrev pub variable_text : Node → List ℕ
  variable_text n = option_map_or (λ id. first_of (words_of t id)) (child_of t n k.VariableId) []

  abbrev pub variable_brackets : Node → ℕ
  variable_brackets n = option_map_or (λ id. length (own_brackets t id)) (child_of t n k.VariableId) 0

  -- ---- fields

  -- a declaration has one field for each declarator
  abbrev pub declarators : Node → List Node
  declarators declaration = filter (is_kind t k.VariableDeclarator) (children_of t declaration)

  abbrev pub field_with : ℕ → Node → JavaType → Member
  field_with flags n ty = record { flags = flags; name = variable_text n; signature = spelled ty }

  abbrev pub field_of : Node → Node → Asking Member
  field_of declaration declarator =
      bind (declared_type t (variable_brackets declarator) declaration) (λ ty. Return (field_with (field_flags t declaration) declarator ty))

  abbrev pub fields_of : Node → Asking (List Member)
  fields_of declaration = each (field_of declaration) (declarators declaration)

  -- an enum constant is a field of the enum's type (JLS 8.9.3)
  abbrev pub constant_of : Node → Node → Member
  constant_of class n = field_with constant_flags n (class_of_text (class_text t class))

  -- ---- methods and constructors (JLS 8.4, 8.8, 9.6.1)

  abbrev pub argument_of : Node → Asking JavaType
  argument_of parameter = declared_type t (variable_brackets parameter) parameter

  -- a receiver parameter is none (JLS 8.4)
  abbrev pub argument_types : Node → Asking (List JavaType)
  argument_types n = each argument_of (formal_parameters t n)

  -- a constructor is the method `<init>`, which returns nothing (JVMS 2.9.1)
  abbrev pub method_name : Node → List ℕ
  method_name n = if is_kind t k.ConstructorDeclaration n then codes "<init>" else first_of (words_of t n)

  -- brackets may stand behind the parameters (JLS 8.4.5)
  abbrev pub result_of : Node → Asking JavaType
  result_of n = if is_kind t k.ConstructorDeclaration n then Return Void else declared_type t (length (own_brackets t n)) n

  abbrev pub method_with : Node → List Parameter → List JavaType → JavaType → Member
  method_with n parameters arguments returned =
      record { flags = method_flags t n; name = method_name n; signature = method_signature_text parameters arguments returned }

  abbrev pub method_of : Node → Asking Member
  method_of n =
      bind (type_parameters t [] n) (λ parameters.
      bind (argument_types n) (λ arguments.
      bind (result_of n) (λ returned.
      Return (method_with n parameters arguments returned))))

  -- ---- what a class declares

  abbrev pub fields_alone : Node → Asking MemberLists
  fields_alone n = bind (fields_of n) (λ fields. Return (only_fields fields))

  abbrev pub method_alone : Node → Asking MemberLists
  method_alone n = bind (method_of n) (λ method. Return (one_method method))

  abbrev pub member_by : Node → Node → Option Kind → Asking MemberLists
  member_by class n (Some k.FieldDeclaration) = fields_alone n
  member_by class n (Some k.EnumConstant) = Return (only_fields (constant_of class n ∷ []))
  member_by class n (Some k.MethodDeclaration) = method_alone n
  member_by class n (Some k.ConstructorDeclaration) = method_alone n
  member_by class n other = Return no_members

  -- what one child of the body declares
  abbrev pub member_lists : Node → Node → Asking MemberLists
  member_lists class n = member_by class n (kind_of t n)

  abbrev pub members_among : Node → List Node → Asking MemberLists
  members_among class nodes = bind (each (member_lists class) nodes) (λ lists. Return (all_members lists))

  abbrev pub body_nodes : Node → List Node
  body_nodes class = children_or t (body_of t class)

  abbrev pub members_of : Node → Asking MemberLists
  members_of class = members_among class (body_nodes class)
