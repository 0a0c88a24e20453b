-- What follows from the definitions.
use Rattle.std.specs.Prelude.{◌≡◌, ◌⊎◌, ◌<◌, ℕ, ◌+◌, ◌==◌, Bool, false, List, [], Ok, Some, filter, length, map, slice_get}
use Rattle.std.specs.List.{AllByRecursion, list_any}
use Rattle.std.specs.List.Sorted.{IsStrictlySortedBy}
use Rattle.std.specs.Option.{option_map_or}
use Rattle.std.specs.Ordering.{nat_cmp, on, then_cmp}
use Rattle.std.specs.declared.cmp.Ordering.{Ordering}
use Rattle.pj_reports.specs.declared.rows.FileError.{FileError}
use Rattle.pj_reports.specs.declared.rows.Finding.{Finding}
use Rattle.pj_tree.specs.declared.node.Node.{Node}
use Rattle.pj_xaxes.specs.Order.{has_item}
use Rattle.pj_xvalue.specs.Items.{ItemValue, Element}
use Rattle.pj_findings.specs.Denoted.{denoted}
use Rattle.pj_findings.specs.Merged.{by_node, error_by, errors_from, finding_of, findings_from, found_by}
use Rattle.pj_reports.specs.declared.ruled.Spot.{Spot}
use Rattle.pj_reports.specs.declared.ruled.Ruled.{Ruled}

-- ---- the nodes of a query

-- They ascend, so each stands once.
abbrev pub NodesAscend : Type 0
NodesAscend = (items : List ItemValue) (nodes : List Node) → denoted items ≡ Ok nodes → IsStrictlySortedBy (on (λ (n : Node). n.0) nat_cmp) nodes

-- They are the items.
abbrev pub NodesAreItems : Type 0
NodesAreItems = (items : List ItemValue) (nodes : List Node) (n : Node) → denoted items ≡ Ok nodes → list_any (λ m. m.0 == n.0) nodes ≡ has_item items (Element n)

-- ---- the findings of a file

-- the nodes of a rule's findings ascend
abbrev pub IsAscending : Ruled → Type 0
IsAscending result = IsStrictlySortedBy nat_cmp (map (λ (found : Spot). found.node) (found_by result))

-- the order of findings: that of their nodes, and at one node that of the rules
abbrev pub finding_order : Finding → Finding → Ordering
finding_order = then_cmp (on (λ (finding : Finding). finding.node) nat_cmp) (on (λ (finding : Finding). finding.rule) nat_cmp)

-- The findings of rules each of whose own ascend, ascend: no rule finds a node twice.
abbrev pub FindingsAscend : Type 0
FindingsAscend = (results : List Ruled) → AllByRecursion IsAscending results → IsStrictlySortedBy finding_order (by_node (findings_from 0 results))

-- Of each rule just its own findings are among them, in their order.
abbrev pub FindingsAreKept : Type 0
FindingsAreKept = (results : List Ruled) (rule : ℕ) (result : Ruled) → AllByRecursion IsAscending results → slice_get results rule ≡ Some result
    → filter (λ finding. finding.rule == rule) (by_node (findings_from 0 results)) ≡ map (finding_of rule) (found_by result)

-- Each is of one of the rules.
abbrev pub FindingsAreOfRules : Type 0
FindingsAreOfRules = (results : List Ruled) → AllByRecursion (λ (finding : Finding). finding.rule < length results) (by_node (findings_from 0 results))

-- ---- the errors of a file

-- the order of errors: that of the rules, and before them one that is of no rule
abbrev pub error_order : FileError → FileError → Ordering
error_order = on (λ (error : FileError). option_map_or (λ rule. rule + 1) error.rule 0) nat_cmp

-- whether an error is of the rule of this number
abbrev pub is_of : ℕ → FileError → Bool
is_of rule error = option_map_or (λ number. number == rule) error.rule false

-- The errors of rules ascend: no rule has two.
abbrev pub ErrorsAscend : Type 0
ErrorsAscend = (results : List Ruled) → IsStrictlySortedBy error_order (errors_from 0 results)

-- Of each rule just its own error is among them, where it has one.
abbrev pub ErrorsAreKept : Type 0
ErrorsAreKept = (results : List Ruled) (rule : ℕ) (result : Ruled) → slice_get results rule ≡ Some result → filter (is_of rule) (errors_from 0 results) ≡ error_by rule result

-- A rule has no findings, or no error.
abbrev pub NoneHasBoth : Type 0
NoneHasBoth = (rule : ℕ) (result : Ruled) → (found_by result ≡ []) ⊎ (error_by rule result ≡ [])
