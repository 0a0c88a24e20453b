-- The types of variables by their declarations (JLS 8.3, 8.4.1, 8.9.1, 8.10.1, 14.4, 14.14.2, 14.20, 15.27.1).
use Rattle.std.specs.Prelude.{Option, None, Some, if◌then◌else◌, List}
use Rattle.pj_tree.specs.Tree.{Tree}
use Rattle.pj_tree.specs.Children.{child_of}
use Rattle.pj_tree.specs.declared.kind.Kind.TheVariants as k
use Rattle.pj_tree.specs.declared.node.Node.{Node}
use Rattle.pj_names.specs.JavaType.{JavaType, Unknown}
use Rattle.pj_names.specs.Asking.{Asking, Return, bind, each}
use Rattle.pj_symbols.specs.Variables.{declaration_of}
use Rattle.pj_file_oracle.specs.Types.{declared_type}
use Rattle.pj_leaf_types.specs.Variables.{first_name, is_var, statement_of}
use Rattle.pj_receivers.specs.Elements.{iterated}
use Rattle.pj_exprtypes.specs.Expressions.{only}
use Rattle.pj_exprtypes.specs.Operands.{var_operands}
use Rattle.pj_exprtypes.specs.Typing.{Typing, Known, OfVar, OfWritten, known}

module _ (t : Tree) where
  -- ---- of any variable

  -- one that is declared by `var`, or with the type that it writes
  abbrev pub variable_by : Node → Option Node → Typing
  variable_by id None = Known Unknown
  variable_by id (Some declaration) = if is_var t declaration then OfVar id else OfWritten id declaration

  -- the variable of a name
  abbrev pub variable_type : Node → Typing
  variable_type id = variable_by id (declaration_of t id)

  abbrev pub variable_or_unknown : Option Node → Typing
  variable_or_unknown None = Known Unknown
  variable_or_unknown (Some id) = variable_type id

  -- a node that declares one variable has its type
  abbrev pub named_type : Node → Typing
  named_type n = variable_or_unknown (child_of t n k.VariableId)

  -- A declaration of several has the type that it writes, and by `var` that of its first variable.
  abbrev pub declaration_type : Node → Asking Typing
  declaration_type declaration = if is_var t declaration then Return (variable_or_unknown (first_name t declaration)) else known (declared_type t 0 declaration)

  -- ---- of one that is declared by `var`, by what the types of expressions are

  -- what its enhanced `for` goes through (JLS 14.14.2), and else the type of its initializer, as it is
  abbrev pub var_by : Option Node → JavaType → Asking JavaType
  var_by None ty = Return ty
  var_by (Some statement) ty = iterated ty

  abbrev pub var_with : Node → List JavaType → Asking JavaType
  var_with id types = var_by (statement_of t id) (only types)

  abbrev pub var_type : (Node → Asking JavaType) → Node → Asking JavaType
  var_type type_of id = bind (each type_of (var_operands t id)) (λ types. var_with id types)
