-- Ends as numbers, and tables of cells.
use Rattle.std.specs.Prelude.{ℕ, zero, suc, ◌+◌, List, Option, Some, None, slice_get}
use Rattle.std.specs.Option.{option_and_then}

-- The end of a code: a failure of 0, else the place that is one less. A cell has its number so, too.
abbrev pub end_of_code : ℕ → Option ℕ
end_of_code zero = None
end_of_code (suc e) = Some e

abbrev pub code_of_end : Option ℕ → ℕ
code_of_end None = 0
code_of_end (Some e) = e + 1

-- the cell of a place and a slot, if it is there
abbrev pub cell_at : List (List (Option ℕ)) → ℕ → ℕ → Option (Option ℕ)
cell_at table place slot = option_and_then (λ row. slice_get row slot) (slice_get table place)
