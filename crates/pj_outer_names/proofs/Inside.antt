-- Nodes of a tree that are picked out of a list of them, and the node of an import of one name.
use Rattle.std.proofs.Common.{ℕ, zero, suc, ◌<◌, ◌≤◌, ◌++◌, arith, Bool, true, false, cond, List, [], ◌∷◌, length, Option, None, Some, filter}
use Rattle.std.specs.Option.{IfSome, option_map}
use Rattle.pj_tree.specs.Tree.{Tree, parent_of}
use Rattle.pj_tree.specs.declared.node.Node.{Node}
use Rattle.pj_tree.proofs.Inside.{AreInside}
use Rattle.pj_declared.specs.Imports.{import_scope, imported_name, imports_at, imports_below, imports_of, imports_one}
use Rattle.pj_declared.specs.Nearest.{declared_by, is_meant, is_nearer, meant_among, nearer, nearest, single_import}
use Rattle.pj_declared.specs.Rows.{named}
use Rattle.pj_declared.specs.Scope.{one_scope, scope_of_all}
use Rattle.pj_declared.specs.declared.imports.ImportSort.{ImportSort}
use Rattle.pj_declared.specs.declared.named.Named.{Named}
use Rattle.pj_declared.specs.declared.nearest.Declared.{Declared}

-- ---- lists of nodes

picked : (count : ℕ) (b : Bool) (n : Node) (ns : List Node) → n.0 < count → AreInside count ns → AreInside count (cond b (n ∷ ns) ns)
picked count true n ns first rest = (first, rest)
picked count false n ns first rest = rest

pub filtered_inside : (count : ℕ) (p : Node → Bool) (ns : List Node) → AreInside count ns → AreInside count (filter p ns)
filtered_inside count p [] inside = tt
filtered_inside count p (n ∷ ns) inside = picked count (p n) n (filter p ns) inside.0 (filtered_inside count p ns inside.1)

-- ---- rows whose declarations are nodes of the tree

abbrev Declares : ℕ → List Named → Type 0
Declares count [] = Unit {0}
Declares count (row ∷ rows) = (row.scope.declared.0 < count) × Declares count rows

declares_append : (count : ℕ) (rows more : List Named) → Declares count rows → Declares count more → Declares count (rows ++ more)
declares_append count [] more first second = second
declares_append count (row ∷ rows) more first second = (first.0, declares_append count rows more first.1 second)

declares_cond : (count : ℕ) (b : Bool) (rows more : List Named) → Declares count rows → Declares count more → Declares count (cond b rows more)
declares_cond count true rows more first second = first
declares_cond count false rows more first second = second

declares_picked : (count : ℕ) (b : Bool) (row : Named) (rows : List Named) → row.scope.declared.0 < count → Declares count rows → Declares count (cond b (row ∷ rows) rows)
declares_picked count true row rows first rest = (first, rest)
declares_picked count false row rows first rest = rest

declares_filtered : (count : ℕ) (p : Named → Bool) (rows : List Named) → Declares count rows → Declares count (filter p rows)
declares_filtered count p [] inside = tt
declares_filtered count p (row ∷ rows) inside = declares_picked count (p row) row (filter p rows) inside.0 (declares_filtered count p rows inside.1)

-- ---- the nearest of them

nearer_cond : (count : ℕ) (b : Bool) (one other : Declared) → one.node.0 < count → other.node.0 < count → (cond b other one).node.0 < count
nearer_cond count true one other first second = second
nearer_cond count false one other first second = first

nearer_inside : (count : ℕ) (one : Declared) (known : Option Declared) → one.node.0 < count → IfSome known (λ d. d.node.0 < count) → (nearer one known).node.0 < count
nearer_inside count one None first second = first
nearer_inside count one (Some other) first second = nearer_cond count (is_nearer other one) one other first second

nearest_inside : (count : ℕ) (rows : List Named) → Declares count rows → IfSome (nearest rows) (λ d. d.node.0 < count)
nearest_inside count [] inside = tt
nearest_inside count (row ∷ rows) inside = nearer_inside count (declared_by row.scope) (nearest rows) inside.0 (nearest_inside count rows inside.1)

node_inside : (count : ℕ) (found : Option Declared) → IfSome found (λ d. d.node.0 < count) → IfSome (option_map (λ (d : Declared). d.node) found) (λ n. n.0 < count)
node_inside count None inside = tt
node_inside count (Some d) inside = inside

-- ---- imports of one name

named_inside : (count : ℕ) (n : Node) (name : Option (List ℕ)) (within : Option Node) → n.0 < count → Declares count (named name (one_scope (option_map (scope_of_all n) within)))
named_inside count n None within inside = tt
named_inside count n (Some name) None inside = tt
named_inside count n (Some name) (Some within) inside = (inside, tt)

at_inside : (t : Tree) (sort : ImportSort) (count : ℕ) (n : Node) → n.0 < count → Declares count (imports_at t sort n)
at_inside t sort count n inside =
    declares_cond count (imports_one t sort n) (named (imported_name t n) (one_scope (import_scope t n))) [] (named_inside count n (imported_name t n) (parent_of t n) inside) tt

below_inside : (t : Tree) (sort : ImportSort) (count n : ℕ) → n ≤ count → Declares count (imports_below t sort n)
below_inside t sort count zero few = tt
below_inside t sort count (suc n) few =
    let n_node : Node = record { 0 = n } in
    declares_append count (imports_below t sort n) (imports_at t sort n_node) (below_inside t sort count n (omega (arith, few))) (at_inside t sort count n_node (omega (arith, few)))

pub import_inside : (t : Tree) (sort : ImportSort) (text : List ℕ) → IfSome (single_import t sort text) (λ n. n.0 < length t.nodes)
import_inside t sort text =
    let count = length t.nodes in
    let root : Node = record { 0 = 0 } in
    node_inside count (meant_among t (imports_of t sort) text root)
    (nearest_inside count (filter (is_meant t text root) (imports_of t sort))
    (declares_filtered count (is_meant t text root) (imports_of t sort) (below_inside t sort count count (omega arith))))
