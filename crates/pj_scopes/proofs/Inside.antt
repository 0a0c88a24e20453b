-- What a name means in the file is a node of its tree.
use Rattle.std.proofs.Common.{◌≡◌, ℕ, zero, suc, ◌<◌, ◌≤◌, ◌++◌, arith, Bool, true, false, cond, List, [], ◌∷◌, length, Option, None, Some, filter, refl}
use Rattle.std.specs.Option.{IfSome, option_and_then, option_map, option_map_or}
use Rattle.pj_tree.specs.Tree.{Tree}
use Rattle.pj_tree.specs.declared.kind.Kind.TheVariants as k
use Rattle.pj_tree.specs.declared.node.Node.{Node}
use Rattle.pj_tree.specs.Children.{child_of, second_child}
use Rattle.pj_symbols.specs.Classes.{class_around}
use Rattle.pj_symbols.specs.Symbols.{names_variable}
use Rattle.pj_symbols.specs.Variables.{declaration_of, variable_kind}
use Rattle.pj_symbols.specs.declared.variable.VariableKind.{VariableKind}
use Rattle.pj_symbols.specs.declared.variable.VariableKind.TheVariants as v
use Rattle.pj_declared.specs.Behind.{behind}
use Rattle.pj_declared.specs.Bindings.{binding_end}
use Rattle.pj_declared.specs.Bodies.{body_of, member_scopes}
use Rattle.pj_declared.specs.Nearest.{declared_by, is_meant, is_nearer, nearer, nearest, variable_meant}
use Rattle.pj_declared.specs.Rows.{in_scope, name_first, named, variables_at, variables_below, variables_of}
use Rattle.pj_declared.specs.Scope.{no_scopes, scope_from, scope_of_all}
use Rattle.pj_declared.specs.VariableScopes.{above_declaration, around_declaration, block_of, pattern_scope, repeated_scope, scopes_by, try_block, variable_scopes}
use Rattle.pj_declared.specs.declared.named.Named.{Named}
use Rattle.pj_declared.specs.declared.nearest.Declared.{Declared}
use Rattle.pj_declared.specs.declared.scope.Scope.{Scope}
use Rattle.pj_declared.specs.declared.scope.Scopes.{Scopes}

-- ---- scopes of the variable that a node names

abbrev IsOf : Node → Option Scope → Type 0
IsOf id None = Unit {0}
IsOf id (Some scope) = scope.declared.0 ≡ id.0

abbrev AreOf : Node → Scopes → Type 0
AreOf id scopes = IsOf id scopes.first × IsOf id scopes.second

from_is : (id : Node) (opened : ℕ) (part : Option Node) → IsOf id (option_map (scope_from id opened) part)
from_is id opened None = tt
from_is id opened (Some within) = refl

all_is : (id : Node) (part : Option Node) → IsOf id (option_map (scope_of_all id) part)
all_is id None = tt
all_is id (Some within) = refl

repeated_is : (t : Tree) (id statement : Node) (expression : Option Node) → IsOf id (option_map (λ e. scope_from id (behind t e) statement) expression)
repeated_is t id statement None = tt
repeated_is t id statement (Some expression) = refl

foreach_is : (t : Tree) (id : Node) (statement : Option Node) → IsOf id (option_and_then (repeated_scope t id) statement)
foreach_is t id None = tt
foreach_is t id (Some statement) = repeated_is t id statement (second_child t statement)

binding_is : (t : Tree) (id : Node) (pattern : Option Node) → IsOf id (option_and_then (pattern_scope t id) pattern)
binding_is t id None = tt
binding_is t id (Some pattern) = from_is id id.0 (binding_end t pattern)

member_is : (t : Tree) (id class : Node) → AreOf id (member_scopes t id class)
member_is t id class = (from_is id class.0 (child_of t class k.RecordComponentList), from_is id class.0 (body_of t class))

field_is : (t : Tree) (id : Node) (class : Option Node) → AreOf id (option_map_or (member_scopes t id) class no_scopes)
field_is t id None = (tt, tt)
field_is t id (Some class) = member_is t id class

kind_is : (t : Tree) (id : Node) (kind : VariableKind) → AreOf id (scopes_by t id kind)
kind_is t id v.Field = field_is t id (class_around t id)
kind_is t id v.EnumConstant = field_is t id (class_around t id)
kind_is t id v.RecordComponent = field_is t id (class_around t id)
kind_is t id v.Resource =
    (from_is id (behind t id) (around_declaration t id), from_is id (behind t id) (option_and_then (try_block t) (around_declaration t id)))
kind_is t id v.LocalVariable = (from_is id (behind t id) (option_and_then (block_of t) (above_declaration t id)), tt)
kind_is t id v.ForLoopVariable = (from_is id (behind t id) (around_declaration t id), tt)
kind_is t id v.ForeachVariable = (foreach_is t id (above_declaration t id), tt)
kind_is t id v.FormalParameter = (all_is id (option_and_then (λ method. child_of t method k.Block) (around_declaration t id)), tt)
kind_is t id v.LambdaParameter = (all_is id (option_and_then (second_child t) (around_declaration t id)), tt)
kind_is t id v.ExceptionParameter = (all_is id (option_and_then (λ clause. child_of t clause k.Block) (above_declaration t id)), tt)
kind_is t id v.PatternBinding = (binding_is t id (declaration_of t id), tt)

-- ---- rows whose declarations are nodes of the tree

abbrev Declares : ℕ → List Named → Type 0
Declares count [] = Unit {0}
Declares count (row ∷ rows) = (row.scope.declared.0 < count) × Declares count rows

declares_append : (count : ℕ) (rows more : List Named) → Declares count rows → Declares count more → Declares count (rows ++ more)
declares_append count [] more first second = second
declares_append count (row ∷ rows) more first second = (first.0, declares_append count rows more first.1 second)

declares_cond : (count : ℕ) (b : Bool) (rows more : List Named) → Declares count rows → Declares count more → Declares count (cond b rows more)
declares_cond count true rows more first second = first
declares_cond count false rows more first second = second

declares_picked : (count : ℕ) (b : Bool) (row : Named) (rows : List Named) → row.scope.declared.0 < count → Declares count rows → Declares count (cond b (row ∷ rows) rows)
declares_picked count true row rows first rest = (first, rest)
declares_picked count false row rows first rest = rest

declares_filtered : (count : ℕ) (p : Named → Bool) (rows : List Named) → Declares count rows → Declares count (filter p rows)
declares_filtered count p [] inside = tt
declares_filtered count p (row ∷ rows) inside = declares_picked count (p row) row (filter p rows) inside.0 (declares_filtered count p rows inside.1)

scope_inside : (count : ℕ) (id : Node) (name : List ℕ) (scope : Option Scope) → id.0 < count → IsOf id scope → Declares count (in_scope name scope)
scope_inside count id name None inside is = tt
scope_inside count id name (Some scope) inside is = (omega arith, tt)

named_inside : (count : ℕ) (id : Node) (name : Option (List ℕ)) (scopes : Scopes) → id.0 < count → AreOf id scopes → Declares count (named name scopes)
named_inside count id None scopes inside are = tt
named_inside count id (Some name) scopes inside are =
    declares_append count (in_scope name scopes.first) (in_scope name scopes.second) (scope_inside count id name scopes.first inside are.0) (scope_inside count id name scopes.second inside are.1)

at_inside : (t : Tree) (count : ℕ) (n : Node) → n.0 < count → Declares count (variables_at t n)
at_inside t count n inside =
    declares_cond count (names_variable t n) (named (name_first t n) (variable_scopes t n)) [] (named_inside count n (name_first t n) (variable_scopes t n) inside (kind_is t n (variable_kind t n))) tt

below_inside : (t : Tree) (count n : ℕ) → n ≤ count → Declares count (variables_below t n)
below_inside t count zero few = tt
below_inside t count (suc n) few =
    let n_node : Node = record { 0 = n } in
    declares_append count (variables_below t n) (variables_at t n_node) (below_inside t count n (omega (arith, few))) (at_inside t count n_node (omega (arith, few)))

-- ---- the nearest of them

nearer_cond : (count : ℕ) (b : Bool) (one other : Declared) → one.node.0 < count → other.node.0 < count → (cond b other one).node.0 < count
nearer_cond count true one other first second = second
nearer_cond count false one other first second = first

nearer_inside : (count : ℕ) (one : Declared) (known : Option Declared) → one.node.0 < count → IfSome known (λ d. d.node.0 < count) → (nearer one known).node.0 < count
nearer_inside count one None first second = first
nearer_inside count one (Some other) first second = nearer_cond count (is_nearer other one) one other first second

nearest_inside : (count : ℕ) (rows : List Named) → Declares count rows → IfSome (nearest rows) (λ d. d.node.0 < count)
nearest_inside count [] inside = tt
nearest_inside count (row ∷ rows) inside = nearer_inside count (declared_by row.scope) (nearest rows) inside.0 (nearest_inside count rows inside.1)

pub variable_inside : (t : Tree) (text : List ℕ) (place : Node) → IfSome (variable_meant t text place) (λ d. d.node.0 < length t.nodes)
variable_inside t text place =
    let count = length t.nodes in
    nearest_inside count (filter (is_meant t text place) (variables_of t)) (declares_filtered count (is_meant t text place) (variables_of t) (below_inside t count count (omega arith)))
