-- Names of variables in expressions (JLS 6.5.6.1, 15.14.1).
use Rattle.std.specs.Prelude.{Option, None, Some, if◌then◌else◌}
use Rattle.pj_tree.specs.Tree.{Tree}
use Rattle.pj_tree.specs.Words.{first_of, words_of}
use Rattle.pj_tree.specs.declared.node.Node.{Node}
use Rattle.pj_names.specs.JavaType.{Unknown}
use Rattle.pj_names.specs.Asking.{Asking, Return, bind}
use Rattle.pj_scopes.specs.VariableName.{DeclaredAt, Inherited, Meant, variable_name}
use Rattle.pj_leaf_types.specs.Variables.{is_in_own_initializer}
use Rattle.pj_exprtypes.specs.Declarations.{variable_type}
use Rattle.pj_exprtypes.specs.Typing.{Typing, Known}

module _ (t : Tree) where
  -- A variable of the file has its type, but in its own initializer; an inherited field that with which it was found. A name that means no variable is not known.
  abbrev pub meant_type : Node → Option Meant → Typing
  meant_type place None = Known Unknown
  meant_type place (Some (DeclaredAt id)) = if is_in_own_initializer t place id then Known Unknown else variable_type t id
  meant_type place (Some (Inherited field)) = Known field.ty

  abbrev pub access_type : Node → Asking Typing
  access_type n = bind (variable_name t n (first_of (words_of t n))) (λ meant. Return (meant_type n meant))
