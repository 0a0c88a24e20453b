-- Names with their scopes, in the order in which they are searched. No public clause names this.
use Rattle.std.specs.Prelude.{ℕ, ◌==◌, ◌&&◌, ◌||◌, Bool, true, false, List, nat_eq, nat_lt, nat_le}
use Rattle.std.specs.Cmp.Lexicographic.{pointwise, slice_cmp}
use Rattle.std.specs.List.Sorted.{IsPermutation, IsSorted}
use Rattle.std.specs.Ordering.{nat_cmp, ordering_index, ordering_then}
use Rattle.std.specs.declared.cmp.Ordering.{Ordering}
use Rattle.std.specs.declared.cmp.Ordering.TheVariants.{Less, Equal, Greater}
use Rattle.pj_tree.specs.declared.node.Node.{Node}
use Rattle.pj_declared.specs.declared.named.Named.{Named}

abbrev pub before_by : Ordering → Bool → Bool
before_by Less by_scope = true
before_by Equal by_scope = by_scope
before_by Greater by_scope = false

-- whether a row stands before the scopes of a name within a node that this number opens, or a greater one
abbrev pub is_before : List ℕ → Node → ℕ → Named → Bool
is_before name within opened row =
    before_by (slice_cmp nat_cmp row.name name) (nat_lt row.scope.within.0 within.0 || (row.scope.within.0 == within.0 && nat_lt row.scope.opened opened))

-- where the name of a row stands beside another one: 0 before it, 1 where they are the same, 2 behind it
abbrev pub name_rank : List ℕ → Named → ℕ
name_rank name row = ordering_index (slice_cmp nat_cmp row.name name)

-- whether a row is of the name, with a scope within the node
abbrev pub is_of : List ℕ → Node → Named → Bool
is_of name within row = pointwise nat_eq row.name name && row.scope.within.0 == within.0

-- by name, then by what the scope lies within, then by what opens it, then by the declaration
abbrev pub row_order : Named → Named → Ordering
row_order x y =
    ordering_then (slice_cmp nat_cmp x.name y.name) (ordering_then (nat_cmp x.scope.within.0 y.scope.within.0) (ordering_then (nat_cmp x.scope.opened y.scope.opened) (nat_cmp x.scope.declared.0 y.scope.declared.0)))

abbrev pub IsInOrder : List Named → Type 0
IsInOrder rows = IsSorted row_order rows

-- the same rows, in order
abbrev pub IsTableOf : List Named → List Named → Type 0
IsTableOf rows sorted = IsPermutation rows sorted × IsInOrder sorted

-- whether a row has the name, a scope within the node, and is opened at the place or before
abbrev pub is_open : List ℕ → Node → Node → Named → Bool
is_open name within place row = is_of name within row && nat_le row.scope.opened place.0
