-- Rows put to their rules one after the other. No public clause cites this.
use Rattle.std.specs.Prelude.{ℕ, Bool, true, false, List, [], ◌∷◌, ◌++◌, Option, Some, None, get_or, set}
use Rattle.pj_reports.specs.declared.rows.Finding.{Finding}
use Rattle.pj_reports.specs.declared.rows.FileError.{FileError}
use Rattle.pj_reports.specs.declared.ruled.Ruled.{Ruled}
use Rattle.pj_reports.specs.declared.ruled.Ruled.TheVariants as ruled
use Rattle.pj_reports.specs.declared.ruled.Spot.{Spot}
use Rattle.pj_cache.specs.declared.cache.KeyRows.{KeyRows}
use Rattle.pj_carry.specs.Carried.{First}
use Rattle.pj_carry.specs.Rows.{spot_of}

abbrev pub is_message : Ruled → Bool
is_message (ruled.Spots spots) = false
is_message (ruled.Message message) = true

abbrev pub with_spot : Ruled → Spot → Ruled
with_spot (ruled.Spots spots) spot = ruled.Spots (spots ++ spot ∷ [])
with_spot (ruled.Message message) spot = ruled.Message message

abbrev pub with_message : Ruled → List ℕ → Ruled
with_message (ruled.Spots spots) message = ruled.Message message
with_message (ruled.Message first) message = ruled.Message first

abbrev pub row_at : List Ruled → ℕ → Ruled
row_at all rule = get_or all rule (ruled.Spots [])

-- the rows of a key: those of its first rule
abbrev pub rows_in : List Ruled → First → KeyRows
rows_in all first = record { key = first.0; rows = row_at all first.1 }

abbrev pub with_finding : List Ruled → Finding → List Ruled
with_finding all f = set all f.rule (with_spot (row_at all f.rule) (spot_of f))

abbrev pub with_findings : List Ruled → List Finding → List Ruled
with_findings all [] = all
with_findings all (f ∷ fs) = with_findings (with_finding all f) fs

abbrev pub with_error_of : List Ruled → Option ℕ → List ℕ → List Ruled
with_error_of all None message = all
with_error_of all (Some rule) message = set all rule (with_message (row_at all rule) message)

abbrev pub with_error : List Ruled → FileError → List Ruled
with_error all e = with_error_of all e.rule e.message

abbrev pub with_errors : List Ruled → List FileError → List Ruled
with_errors all [] = all
with_errors all (e ∷ es) = with_errors (with_error all e) es
