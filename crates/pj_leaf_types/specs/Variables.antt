-- Variables by their declarations (JLS 8.3, 8.4.1, 8.9.1, 8.10.1, 14.4, 14.14.2, 14.20, 15.27.1): the types that are written, and which are declared by `var`.
use Rattle.std.specs.Prelude.{Bool, false, ◌&&◌, not, is_some, Option, None, Some, if◌then◌else◌, length}
use Rattle.std.specs.Option.{option_and_then, option_map_or}
use Rattle.pj_tree.specs.Tree.{Tree, is_descendant, parent_of}
use Rattle.pj_tree.specs.Children.{child_of, second_child}
use Rattle.pj_tree.specs.Kinds.{is_kind}
use Rattle.pj_tree.specs.declared.kind.Kind.TheVariants as k
use Rattle.pj_tree.specs.declared.node.Node.{Node}
use Rattle.pj_names.specs.JavaType.{JavaType}
use Rattle.pj_names.specs.Asking.{Asking, Return}
use Rattle.pj_symbols.specs.Classes.{class_around}
use Rattle.pj_symbols.specs.Variables.{declaration_of}
use Rattle.pj_written.specs.Words.{own_brackets, type_child}
use Rattle.pj_file_oracle.specs.Types.{declared_type}
use Rattle.pj_leaf_types.specs.Classes.{class_or_unknown}

module _ (t : Tree) where
  -- ---- what is written

  -- A declaration by `var` is one of a local variable that writes no type (JLS 14.4.1).
  abbrev pub is_var : Node → Bool
  is_var declaration = is_kind t k.LocalVariableDeclaration declaration && not (is_some (type_child t declaration))

  -- The type that is written, with the brackets behind the name (JLS 10.2). An enum constant has the enum (JLS 8.9.3). A parameter of a lambda expression by itself, and one of a
  -- `catch` of several types, write none, and are not known.
  abbrev pub declared_by : Node → Node → Asking JavaType
  declared_by id declaration =
      if is_kind t k.EnumConstant declaration then Return (class_or_unknown t (class_around t declaration))
      else declared_type t (length (own_brackets t id)) declaration

  -- the first name of a declaration
  abbrev pub first_name : Node → Option Node
  first_name declaration = option_and_then (λ declarator. child_of t declarator k.VariableId) (child_of t declaration k.VariableDeclarator)

  -- ---- by `var`

  abbrev pub is_var_name : Node → Bool
  is_var_name id = option_map_or is_var (declaration_of t id) false

  -- A name in the initializer of the variable itself: there it has no type yet (JLS 14.4.1).
  abbrev pub is_in_own_initializer : Node → Node → Bool
  is_in_own_initializer place id = is_var_name id && option_map_or (is_descendant t place) (parent_of t id) false

  abbrev pub if_iterates : Node → Option Node
  if_iterates above = if is_kind t k.ForeachStatement above then Some above else None

  -- the enhanced `for` that a variable is of
  abbrev pub statement_of : Node → Option Node
  statement_of id = option_and_then if_iterates (option_and_then (parent_of t) (declaration_of t id))

  -- what stands behind the name in a declarator (JLS 8.3, 14.4)
  abbrev pub initializer_in : Node → Option Node
  initializer_in above = if is_kind t k.VariableDeclarator above then second_child t above else None

  -- the initializer of a variable: only a declarator has one, and no parameter or constant of an enum
  abbrev pub initializer_of : Node → Option Node
  initializer_of id = option_and_then initializer_in (parent_of t id)
