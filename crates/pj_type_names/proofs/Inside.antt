-- The node of what a name means in a file, and of the beginning of a name that is written, is a node of the tree.
use Rattle.std.proofs.Common.{ℕ, zero, suc, ◌<◌, ◌≤◌, ◌++◌, arith, Bool, true, false, cond, List, [], ◌∷◌, length, Option, None, Some, filter}
use Rattle.std.specs.Prelude.{find}
use Rattle.std.specs.Option.{IfSome, option_and_then, option_map, option_map_or}
use Rattle.pj_tree.specs.Tree.{Tree, children_of, parent_of}
use Rattle.pj_tree.specs.declared.node.Node.{Node}
use Rattle.pj_tree.specs.Children.{child_of}
use Rattle.pj_symbols.specs.Classes.{class_around, nesting_of}
use Rattle.pj_symbols.specs.Kinds.{declares_class}
use Rattle.pj_symbols.specs.declared.class.Nesting.{Nesting}
use Rattle.pj_symbols.specs.declared.class.Nesting.TheVariants.{TopLevel, Nested, Local, Anonymous}
use Rattle.pj_tree.specs.declared.kind.Kind.TheVariants as k
use Rattle.pj_declared.specs.Bodies.{body_of, member_scopes}
use Rattle.pj_declared.specs.Nearest.{declared_by, is_meant, is_nearer, nearer, nearest, type_meant}
use Rattle.pj_declared.specs.Rows.{classes_at, in_scope, name_first, name_last, named, names_type_parameter, type_parameters_at, types_at, types_below, types_of}
use Rattle.pj_declared.specs.Scope.{no_scopes, one_scope, scope_from, scope_of_all}
use Rattle.pj_declared.specs.TypeScopes.{declared_scopes, declared_scopes_by, listed_scope, local_class_scope, own_scopes, top_level_scope, type_parameter_scope}
use Rattle.pj_declared.specs.declared.named.Named.{Named}
use Rattle.pj_declared.specs.declared.nearest.Declared.{Declared}
use Rattle.pj_declared.specs.declared.scope.Scope.{Scope}
use Rattle.pj_declared.specs.declared.scope.Scopes.{Scopes}
use Rattle.pj_tree.specs.Kinds.{is_kind}
use Rattle.pj_tree.proofs.Inside.{AreInside}
use Rattle.pj_written.proofs.Inside.{children_inside}
use Rattle.pj_written.specs.Written.{name_within, with_outer, written_name}
use Rattle.pj_written.specs.declared.written.Written.{Written}

-- ---- rows of types

abbrev Declares : ℕ → List Named → Type 0
Declares count [] = Unit {0}
Declares count (row ∷ rows) = (row.scope.declared.0 < count) × Declares count rows

declares_append : (count : ℕ) (rows more : List Named) → Declares count rows → Declares count more → Declares count (rows ++ more)
declares_append count [] more first second = second
declares_append count (row ∷ rows) more first second = (first.0, declares_append count rows more first.1 second)

declares_cond : (count : ℕ) (b : Bool) (rows more : List Named) → Declares count rows → Declares count more → Declares count (cond b rows more)
declares_cond count true rows more first second = first
declares_cond count false rows more first second = second

declares_picked : (count : ℕ) (b : Bool) (row : Named) (rows : List Named) → row.scope.declared.0 < count → Declares count rows → Declares count (cond b (row ∷ rows) rows)
declares_picked count true row rows first rest = (first, rest)
declares_picked count false row rows first rest = rest

declares_filtered : (count : ℕ) (p : Named → Bool) (rows : List Named) → Declares count rows → Declares count (filter p rows)
declares_filtered count p [] inside = tt
declares_filtered count p (row ∷ rows) inside = declares_picked count (p row) row (filter p rows) inside.0 (declares_filtered count p rows inside.1)

abbrev IsOfNode : ℕ → Option Scope → Type 0
IsOfNode count scope = IfSome scope (λ s. s.declared.0 < count)

scope_inside : (count : ℕ) (name : List ℕ) (scope : Option Scope) → IsOfNode count scope → Declares count (in_scope name scope)
scope_inside count name None inside = tt
scope_inside count name (Some scope) inside = (inside, tt)

named_inside : (count : ℕ) (name : Option (List ℕ)) (scopes : Scopes) → IsOfNode count scopes.first → IsOfNode count scopes.second → Declares count (named name scopes)
named_inside count None scopes first second = tt
named_inside count (Some name) scopes first second =
    declares_append count (in_scope name scopes.first) (in_scope name scopes.second) (scope_inside count name scopes.first first) (scope_inside count name scopes.second second)

from_inside : (count : ℕ) (n : Node) (opened : ℕ) (within : Option Node) → n.0 < count → IsOfNode count (option_map (scope_from n opened) within)
from_inside count n opened None inside = tt
from_inside count n opened (Some within) inside = inside

all_inside : (count : ℕ) (n : Node) (within : Option Node) → n.0 < count → IsOfNode count (option_map (scope_of_all n) within)
all_inside count n None inside = tt
all_inside count n (Some within) inside = inside

listed_inside : (t : Tree) (count : ℕ) (n : Node) (list : Option Node) → n.0 < count → IsOfNode count (option_and_then (listed_scope t n) list)
listed_inside t count n None inside = tt
listed_inside t count n (Some list) inside = from_inside count n list.0 (parent_of t list) inside

members_inside : (t : Tree) (count : ℕ) (n : Node) (name : Option (List ℕ)) (class : Node) → n.0 < count → Declares count (named name (member_scopes t n class))
members_inside t count n name class inside =
    named_inside count name (member_scopes t n class) (from_inside count n class.0 (child_of t class k.RecordComponentList) inside) (from_inside count n class.0 (body_of t class) inside)

around_inside : (t : Tree) (count : ℕ) (n : Node) (name : Option (List ℕ)) (around : Option Node) → n.0 < count → Declares count (named name (option_map_or (member_scopes t n) around no_scopes))
around_inside t count n name None inside = named_inside count name no_scopes tt tt
around_inside t count n name (Some class) inside = members_inside t count n name class inside

declared_inside : (t : Tree) (count : ℕ) (n : Node) (name : Option (List ℕ)) (nesting : Nesting) → n.0 < count → Declares count (named name (declared_scopes_by t n nesting))
declared_inside t count n name TopLevel inside = named_inside count name (one_scope (top_level_scope t n)) (all_inside count n (parent_of t n) inside) tt
declared_inside t count n name Local inside = named_inside count name (one_scope (local_class_scope t n)) (from_inside count n _ (option_and_then (parent_of t) (parent_of t n)) inside) tt
declared_inside t count n name Nested inside = around_inside t count n name (class_around t n) inside
declared_inside t count n name Anonymous inside = named_inside count name no_scopes tt tt

at_inside : (t : Tree) (count : ℕ) (n : Node) → n.0 < count → Declares count (types_at t n)
at_inside t count n inside =
    declares_append count (type_parameters_at t n) (classes_at t n)
    (declares_cond count (names_type_parameter t n) (named (name_first t n) (one_scope (type_parameter_scope t n))) []
    (named_inside count (name_first t n) (one_scope (type_parameter_scope t n)) (listed_inside t count n (parent_of t n) inside) tt) tt)
    (declares_cond count (declares_class t n) (named (name_last t n) (own_scopes t n) ++ named (name_last t n) (declared_scopes t n)) []
    (declares_append count (named (name_last t n) (own_scopes t n)) (named (name_last t n) (declared_scopes t n)) (members_inside t count n (name_last t n) n inside) (declared_inside t count n (name_last t n) (nesting_of t n) inside)) tt)

below_inside : (t : Tree) (count n : ℕ) → n ≤ count → Declares count (types_below t n)
below_inside t count zero few = tt
below_inside t count (suc n) few =
    let node : Node = record { 0 = n } in
    declares_append count (types_below t n) (types_at t node) (below_inside t count n (omega (arith, few))) (at_inside t count node (omega (arith, few)))

-- ---- the nearest of them

nearer_cond : (count : ℕ) (b : Bool) (one other : Declared) → one.node.0 < count → other.node.0 < count → (cond b other one).node.0 < count
nearer_cond count true one other first second = second
nearer_cond count false one other first second = first

nearer_inside : (count : ℕ) (one : Declared) (known : Option Declared) → one.node.0 < count → IfSome known (λ d. d.node.0 < count) → (nearer one known).node.0 < count
nearer_inside count one None first second = first
nearer_inside count one (Some other) first second = nearer_cond count (is_nearer other one) one other first second

nearest_inside : (count : ℕ) (rows : List Named) → Declares count rows → IfSome (nearest rows) (λ d. d.node.0 < count)
nearest_inside count [] inside = tt
nearest_inside count (row ∷ rows) inside = nearer_inside count (declared_by row.scope) (nearest rows) inside.0 (nearest_inside count rows inside.1)

pub type_meant_inside : (t : Tree) (text : List ℕ) (place : Node) → IfSome (type_meant t text place) (λ d. d.node.0 < length t.nodes)
type_meant_inside t text place =
    let count = length t.nodes in
    nearest_inside count (filter (is_meant t text place) (types_of t)) (declares_filtered count (is_meant t text place) (types_of t) (below_inside t count count (omega arith)))

-- ---- names of class types

some_inside : (count : ℕ) (b : Bool) (n : Node) (o : Option Node) → n.0 < count → IfSome o (λ m. m.0 < count) → IfSome (cond b (Some n) o) (λ m. m.0 < count)
some_inside count true n o first second = first
some_inside count false n o first second = second

found_inside : (count : ℕ) (p : Node → Bool) (ns : List Node) → AreInside count ns → IfSome (find p ns) (λ m. m.0 < count)
found_inside count p [] inside = tt
found_inside count p (n ∷ ns) inside = some_inside count (p n) n (find p ns) inside.0 (found_inside count p ns inside.1)

outer_inside : (t : Tree) (written : Node → Written) (n : Node) (outer : Option Node) → n.0 < length t.nodes → IfSome outer (λ m. m.0 < length t.nodes)
    → ((m : Node) → m.0 < length t.nodes → (written m).at.0 < length t.nodes) → (with_outer t written n outer).at.0 < length t.nodes
outer_inside t written n None here outer deeper = here
outer_inside t written n (Some m) here outer deeper = deeper m outer

within_inside : (t : Tree) (deep : ℕ) (n : Node) → n.0 < length t.nodes → (name_within t deep n).at.0 < length t.nodes
within_inside t zero n inside = inside
within_inside t (suc deep) n inside =
    outer_inside t (name_within t deep) n (child_of t n k.ClassType) inside (found_inside (length t.nodes) (is_kind t k.ClassType) (children_of t n) (children_inside t n)) (within_inside t deep)

pub name_inside : (t : Tree) (n : Node) → n.0 < length t.nodes → (written_name t n).at.0 < length t.nodes
name_inside t n inside = within_inside t (length t.nodes) n inside
