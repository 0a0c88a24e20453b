-- The rows of a file, by what each rule came to in it.
use Rattle.std.specs.Prelude.{ℕ, ◌+◌, ◌==◌, max, List, [], ◌∷◌, ◌++◌, Some, None, filter, flat_map, map}
use Rattle.std.specs.List.{range_with_len}
use Rattle.pj_reports.specs.declared.rows.FileError.{FileError}
use Rattle.pj_reports.specs.declared.rows.FileRows.{FileRows}
use Rattle.pj_reports.specs.declared.rows.Finding.{Finding}
use Rattle.pj_reports.specs.declared.ruled.Head.{Head}
use Rattle.pj_reports.specs.declared.ruled.Head.TheVariants as head
use Rattle.pj_reports.specs.declared.ruled.Ruled.{Ruled}
use Rattle.pj_reports.specs.declared.ruled.Ruled.TheVariants.{Spots, Message}
use Rattle.pj_reports.specs.declared.ruled.Spot.{Spot}

-- a finding of the rule of this number
abbrev pub finding_of : ℕ → Spot → Finding
finding_of rule found = record { rule = rule; node = found.node; begin = found.begin; end = found.end; reason = found.reason }

abbrev pub found_by : Ruled → List Spot
found_by (Spots found) = found
found_by (Message message) = []

abbrev pub error_by : ℕ → Ruled → List FileError
error_by rule (Spots found) = []
error_by rule (Message message) = record { rule = Some rule; message = message } ∷ []

-- The findings of rules, one rule after the other, the first of which has this number.
abbrev pub findings_from : ℕ → List Ruled → List Finding
findings_from rule [] = []
findings_from rule (result ∷ results) = map (finding_of rule) (found_by result) ++ findings_from (rule + 1) results

-- and their errors
abbrev pub errors_from : ℕ → List Ruled → List FileError
errors_from rule [] = []
errors_from rule (result ∷ results) = error_by rule result ++ errors_from (rule + 1) results

-- the least number that is greater than the number of each finding's node
abbrev pub past_nodes : List Finding → ℕ
past_nodes [] = 0
past_nodes (finding ∷ findings) = max (finding.node + 1) (past_nodes findings)

-- those of one node, as they stand
abbrev pub at_node : List Finding → ℕ → List Finding
at_node findings node = filter (λ finding. finding.node == node) findings

-- The findings node by node. Those of one node stay in their order, which is that of the rules.
abbrev pub by_node : List Finding → List Finding
by_node findings = flat_map (at_node findings) (range_with_len 0 (past_nodes findings))

-- the rows of a file of this package, in which the rules came to this
abbrev pub merged : List ℕ → List Ruled → FileRows
merged name results = record { «package» = name; findings = by_node (findings_from 0 results); errors = errors_from 0 results }

-- the rows of a file that has no tree
abbrev pub only_error : List ℕ → FileRows
only_error message = record { «package» = []; findings = []; errors = record { rule = None; message = message } ∷ [] }

-- the rows of a file with this head, in which the rules came to this: where there is no tree, one error
abbrev pub merge : Head → List Ruled → FileRows
merge (head.Package name) results = merged name results
merge (head.Message message) results = only_error message
