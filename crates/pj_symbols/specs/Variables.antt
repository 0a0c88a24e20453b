-- Variables: what each is, by the nodes above its name.
use Rattle.std.specs.Prelude.{Bool, true, false, Option, Some, if◌then◌else◌}
use Rattle.std.specs.Option.{option_and_then, option_map_or}
use Rattle.pj_tree.specs.Tree.{Tree, kind_of, parent_of}
use Rattle.pj_tree.specs.declared.kind.Kind.{Kind}
use Rattle.pj_tree.specs.declared.kind.Kind.TheVariants as k
use Rattle.pj_tree.specs.declared.node.Node.{Node}
use Rattle.pj_tree.specs.Kinds.{kind_above}
use Rattle.pj_tree.specs.Words.{first_of, words_of}
use Rattle.pj_symbols.specs.declared.variable.Variable.{Variable}
use Rattle.pj_symbols.specs.declared.variable.VariableKind.{VariableKind}
use Rattle.pj_symbols.specs.declared.variable.VariableKind.TheVariants as v

abbrev pub is_declarator : Kind → Bool
is_declarator k.VariableDeclarator = true
is_declarator other = false

-- the node that declares a variable with its type: the parent of its name, or the node above where the parent is a declarator
abbrev pub declaration_above : Tree → Node → Option Node
declaration_above t parent = if option_map_or is_declarator (kind_of t parent) false then parent_of t parent else Some parent

abbrev pub declaration_of : Tree → Node → Option Node
declaration_of t n = option_and_then (declaration_above t) (parent_of t n)

-- what a local variable declaration declares (JLS 14.4), by the kind of the node above: JLS 14.14.1, 14.14.2, 14.20.3
abbrev pub local_kind_in : Kind → VariableKind
local_kind_in k.ForInit = v.ForLoopVariable
local_kind_in k.ForeachStatement = v.ForeachVariable
local_kind_in k.Resource = v.Resource
local_kind_in other = v.LocalVariable

abbrev pub local_kind : Option Kind → VariableKind
local_kind above = option_map_or local_kind_in above v.LocalVariable

-- what a variable is, by the kind of its declaration and of the node above
abbrev pub kind_in : Kind → Option Kind → VariableKind
kind_in k.FieldDeclaration above = v.Field
kind_in k.EnumConstant above = v.EnumConstant
kind_in k.CatchParameter above = v.ExceptionParameter
kind_in k.FormalParameter above = v.FormalParameter
kind_in k.LambdaParameter above = v.LambdaParameter
kind_in k.RecordComponent above = v.RecordComponent
kind_in k.TypePattern above = v.PatternBinding
kind_in other above = local_kind above

abbrev pub kind_by : Tree → Node → VariableKind
kind_by t declaration = option_map_or (λ kind. kind_in kind (kind_above t declaration)) (kind_of t declaration) v.LocalVariable

abbrev pub variable_kind : Tree → Node → VariableKind
variable_kind t n = option_map_or (kind_by t) (declaration_of t n) v.LocalVariable

-- the variable whose name the node is
abbrev pub variable_of : Tree → Node → Variable
variable_of t n = record { node = n; name = first_of (words_of t n); kind = variable_kind t n }
