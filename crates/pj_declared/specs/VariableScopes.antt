-- The scopes of variables (JLS 6.3).
use Rattle.std.specs.Prelude.{Option, None, Some}
use Rattle.std.specs.Option.{option_map, option_map_or, option_and_then}
use Rattle.pj_tree.specs.Tree.{Tree, kind_of, parent_of}
use Rattle.pj_tree.specs.declared.kind.Kind.{Kind}
use Rattle.pj_tree.specs.declared.kind.Kind.TheVariants as k
use Rattle.pj_tree.specs.declared.node.Node.{Node}
use Rattle.pj_tree.specs.Children.{child_of, second_child}
use Rattle.pj_symbols.specs.Classes.{class_around}
use Rattle.pj_symbols.specs.Variables.{declaration_of, variable_kind}
use Rattle.pj_symbols.specs.declared.variable.VariableKind.{VariableKind}
use Rattle.pj_symbols.specs.declared.variable.VariableKind.TheVariants as v
use Rattle.pj_declared.specs.declared.scope.Scope.{Scope}
use Rattle.pj_declared.specs.declared.scope.Scopes.{Scopes}
use Rattle.pj_declared.specs.Scope.{scope_from, scope_of_all, no_scopes, one_scope}
use Rattle.pj_declared.specs.Behind.{behind}
use Rattle.pj_declared.specs.Bodies.{member_scopes}
use Rattle.pj_declared.specs.Bindings.{binding_end}

-- the node above the declaration of a variable
abbrev pub above_declaration : Tree → Node → Option Node
above_declaration t id = option_and_then (parent_of t) (declaration_of t id)

-- the node above that
abbrev pub around_declaration : Tree → Node → Option Node
around_declaration t id = option_and_then (parent_of t) (above_declaration t id)

-- ---- one case for each kind of variable

-- a field, an enum constant and a record component, which is a field: as members of the class around (JLS 8.3, 8.9.3, 8.10.3)
abbrev pub field_scopes : Tree → Node → Scopes
field_scopes t id = option_map_or (member_scopes t id) (class_around t id) no_scopes

-- A local variable: the rest of the block, its own initializer and the declarators to its right included. In a switch of the old form that is the rest of the switch block.
abbrev pub block_by : Tree → Node → Kind → Option Node
block_by t n k.Block = Some n
block_by t n k.SwitchFallthroughBranch = parent_of t n
block_by t n other = None

abbrev pub block_of : Tree → Node → Option Node
block_of t n = option_and_then (block_by t n) (kind_of t n)

abbrev pub local_scope : Tree → Node → Option Scope
local_scope t id = option_map (scope_from id (behind t id)) (option_and_then (block_of t) (above_declaration t id))

-- a variable of a basic `for` (JLS 14.14.1): its own initializer, the declarators to its right, and the rest of the statement
abbrev pub for_scope : Tree → Node → Option Scope
for_scope t id = option_map (scope_from id (behind t id)) (around_declaration t id)

-- the variable of an enhanced `for` (JLS 14.14.2): what stands behind its expression, which is the statement that it repeats
abbrev pub repeated_scope : Tree → Node → Node → Option Scope
repeated_scope t id statement = option_map (λ expression. scope_from id (behind t expression) statement) (second_child t statement)

abbrev pub foreach_scope : Tree → Node → Option Scope
foreach_scope t id = option_and_then (repeated_scope t id) (above_declaration t id)

-- a resource (JLS 14.20.3): its own initializer, the resources to its right, and the block
abbrev pub try_block : Tree → Node → Option Node
try_block t resources = option_and_then (λ statement. child_of t statement k.Block) (parent_of t resources)

abbrev pub resource_scopes : Tree → Node → Scopes
resource_scopes t id = record {
  first = option_map (scope_from id (behind t id)) (around_declaration t id);
  second = option_map (scope_from id (behind t id)) (option_and_then (try_block t) (around_declaration t id));
}

-- the parameter of a method or a constructor (JLS 8.4.1): the body
abbrev pub parameter_scope : Tree → Node → Option Scope
parameter_scope t id = option_map (scope_of_all id) (option_and_then (λ method. child_of t method k.Block) (around_declaration t id))

-- the parameter of a lambda expression (JLS 15.27.1): its body
abbrev pub lambda_scope : Tree → Node → Option Scope
lambda_scope t id = option_map (scope_of_all id) (option_and_then (second_child t) (around_declaration t id))

-- the parameter of a `catch` (JLS 14.20): its block
abbrev pub catch_scope : Tree → Node → Option Scope
catch_scope t id = option_map (scope_of_all id) (option_and_then (λ clause. child_of t clause k.Block) (above_declaration t id))

-- A pattern variable (JLS 14.30.1): from its name on, which ends the pattern. What stands directly behind the pattern may be the body of a class, whose
-- members are opened by that.
abbrev pub pattern_scope : Tree → Node → Node → Option Scope
pattern_scope t id pattern = option_map (scope_from id id.0) (binding_end t pattern)

abbrev pub binding_scope : Tree → Node → Option Scope
binding_scope t id = option_and_then (pattern_scope t id) (declaration_of t id)

abbrev pub scopes_by : Tree → Node → VariableKind → Scopes
scopes_by t id v.Field = field_scopes t id
scopes_by t id v.EnumConstant = field_scopes t id
scopes_by t id v.RecordComponent = field_scopes t id
scopes_by t id v.Resource = resource_scopes t id
scopes_by t id v.LocalVariable = one_scope (local_scope t id)
scopes_by t id v.ForLoopVariable = one_scope (for_scope t id)
scopes_by t id v.ForeachVariable = one_scope (foreach_scope t id)
scopes_by t id v.FormalParameter = one_scope (parameter_scope t id)
scopes_by t id v.LambdaParameter = one_scope (lambda_scope t id)
scopes_by t id v.ExceptionParameter = one_scope (catch_scope t id)
scopes_by t id v.PatternBinding = one_scope (binding_scope t id)

-- the scopes of the variable whose name the node is
abbrev pub variable_scopes : Tree → Node → Scopes
variable_scopes t id = scopes_by t id (variable_kind t id)
