-- What the rows of a file say of each rule, by its number.
use Rattle.std.specs.Prelude.{ℕ, Bool, false, ◌==◌, List, [], ◌∷◌, map, filter, Option, Some, None, if◌then◌else◌}
use Rattle.std.specs.List.{range_with_len}
use Rattle.pj_reports.specs.declared.rows.Finding.{Finding}
use Rattle.pj_reports.specs.declared.rows.FileError.{FileError}
use Rattle.pj_reports.specs.declared.rows.FileRows.{FileRows}
use Rattle.pj_reports.specs.declared.ruled.Ruled.{Ruled}
use Rattle.pj_reports.specs.declared.ruled.Ruled.TheVariants as ruled
use Rattle.pj_reports.specs.declared.ruled.Spot.{Spot}

abbrev pub spot_of : Finding → Spot
spot_of f = record { node = f.node; begin = f.begin; end = f.end; reason = f.reason }

-- the nodes that a rule denotes
abbrev pub spots_of : ℕ → List Finding → List Spot
spots_of rule findings = map spot_of (filter (λ (f : Finding). f.rule == rule) findings)

-- whether an error is one of a rule
abbrev pub is_of : ℕ → Option ℕ → Bool
is_of rule None = false
is_of rule (Some number) = number == rule

-- the message of a rule's first error, or else its nodes
abbrev pub said_by : ℕ → List Spot → List FileError → Ruled
said_by rule spots [] = ruled.Spots spots
said_by rule spots (e ∷ es) = if is_of rule e.rule then ruled.Message e.message else said_by rule spots es

abbrev pub rows_of : FileRows → ℕ → Ruled
rows_of r rule = said_by rule (spots_of rule r.findings) r.errors

-- of so many rules, in their order
abbrev pub rows_by_rule : ℕ → FileRows → List Ruled
rows_by_rule count r = map (rows_of r) (range_with_len 0 count)
