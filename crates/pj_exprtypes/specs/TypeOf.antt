-- The type of a node: of an expression, of a variable, and of a declaration (JLS 15). What has no type, and what is not known, is Unknown.
--
-- It is made of the types of the node's operands (`Operands`), by the node's kind: of expressions by `Expressions`, of names by `Names`, of calls by `Calls`, of declarations of variables by `Declarations`. Where a class is asked, it is
-- asked of an oracle that answers the classes of the file too, by their declarations; what is asked beneath is that meaning expanded (`file_answer` of `pj_file_oracle`).
--
-- Operands and arguments stand below their expression, so that recursion goes as deep as the tree. A variable that is declared by `var` has the
-- type of its initializer, or of what an enhanced `for` goes through, which stands anywhere before. So variables are another recursion,
-- from those that are declared first: each one's type is told by the types of those before it, and in its own initializer it has none.
use Rattle.std.specs.Prelude.{ℕ, zero, suc, ◌==◌, ◌+◌, Option, Some, if◌then◌else◌, List, length}
use Rattle.pj_tree.specs.Tree.{Tree, kind_of}
use Rattle.pj_tree.specs.declared.kind.Kind.{Kind}
use Rattle.pj_tree.specs.declared.kind.Kind.TheVariants as k
use Rattle.pj_tree.specs.declared.node.Node.{Node}
use Rattle.pj_names.specs.JavaType.{JavaType, Unknown}
use Rattle.pj_names.specs.Asking.{Asking, Return, bind, each}
use Rattle.pj_leaf_types.specs.Variables.{declared_by}
use Rattle.pj_exprtypes.specs.Calls.{call_with, passed_type}
use Rattle.pj_exprtypes.specs.Declarations.{declaration_type, named_type, var_type, variable_type}
use Rattle.pj_exprtypes.specs.Expressions.{expression_with}
use Rattle.pj_exprtypes.specs.Names.{access_type}
use Rattle.pj_exprtypes.specs.Operands.{operands}
use Rattle.pj_exprtypes.specs.Typing.{Typing, Known, OfVar, OfWritten, OfCall, known}

-- ---- by the types of operands

abbrev pub type_with : Tree → Node → Option Kind → List JavaType → Asking Typing
-- names of variables (JLS 6.5.6)
type_with t n (Some k.VariableAccess) types = access_type t n
-- calls of methods (JLS 15.12)
type_with t n (Some k.MethodCall) types = call_with t n types
-- declarations of variables
type_with t n (Some k.VariableId) types = Return (variable_type t n)
type_with t n (Some k.VariableDeclarator) types = Return (named_type t n)
type_with t n (Some k.FormalParameter) types = Return (named_type t n)
type_with t n (Some k.LambdaParameter) types = Return (named_type t n)
type_with t n (Some k.CatchParameter) types = Return (named_type t n)
type_with t n (Some k.RecordComponent) types = Return (named_type t n)
type_with t n (Some k.EnumConstant) types = Return (named_type t n)
type_with t n (Some k.FieldDeclaration) types = declaration_type t n
type_with t n (Some k.LocalVariableDeclaration) types = declaration_type t n
-- expressions, and what else has a type
type_with t n other types = known (expression_with t n other types)

-- By what the types are of variables that are declared by `var`, and of nodes. One that is not has the type that its declaration writes.
abbrev pub final_type : Tree → (Node → Asking JavaType) → (Node → Asking JavaType) → Node → Typing → Asking JavaType
final_type t var type_of n (Known ty) = Return ty
final_type t var type_of n (OfVar id) = var id
final_type t var type_of n (OfWritten id declaration) = declared_by t id declaration
final_type t var type_of n (OfCall candidates) = passed_type t type_of n candidates

abbrev pub made_type : Tree → (Node → Asking JavaType) → (Node → Asking JavaType) → Node → List JavaType → Asking JavaType
made_type t var type_of n types = bind (type_with t n (kind_of t n) types) (λ found. final_type t var type_of n found)

-- what tells the type of a node by the types of its operands
abbrev pub told_by_operands : Tree → (Node → Asking JavaType) → Node → Asking Typing
told_by_operands t type_of n = bind (each type_of (operands t n)) (λ types. type_with t n (kind_of t n) types)

abbrev pub whole_type : Tree → (Node → Asking JavaType) → (Node → Asking JavaType) → Node → Asking JavaType
whole_type t var type_of n = bind (each type_of (operands t n)) (λ types. made_type t var type_of n types)

-- ---- nodes

-- A node, where nodes are typed at most so deep within one another.
unfoldable pub typed : Tree → (Node → Asking JavaType) → ℕ → Node → Asking JavaType
typed t var zero n = Return Unknown
typed t var (suc left) n = whole_type t var (typed t var left) n

-- A node below another one has a greater number, so this is deep enough.
abbrev pub deep : Tree → ℕ
deep t = length t.nodes + 1

-- ---- variables that are declared by `var`

-- one of those before a number
unfoldable pub earlier : Tree → ℕ → Node → Asking JavaType
earlier t zero id = Return Unknown
earlier t (suc last) id = if id.0 == last then var_type t (typed t (earlier t last) (deep t)) id else earlier t last id

-- one by those before it
abbrev pub var_of : Tree → Node → Asking JavaType
var_of t id = earlier t (id.0 + 1) id

-- ---- the whole

-- the type of a node, where variables by `var` are those before a number
abbrev pub typed_before : Tree → ℕ → Node → Asking JavaType
typed_before t before n = typed t (earlier t before) (deep t) n

-- The type of a node.
abbrev pub type_of : Tree → Node → Asking JavaType
type_of t n = typed_before t (length t.nodes) n
