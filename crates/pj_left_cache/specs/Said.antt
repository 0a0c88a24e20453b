-- What the results of a file say of each rule.
use Rattle.std.specs.Prelude.{Bool, List, [], ◌∷◌, Option, is_some, if◌then◌else◌}
use Rattle.std.specs.BTreeMap.{insert_entry, is_at}
use Rattle.std.specs.Map.{lookup}
use Rattle.pj_reports.specs.declared.ruled.Ruled.{Ruled}
use Rattle.pj_reports.specs.declared.ruled.Ruled.TheVariants as ruled
use Rattle.pj_cache.specs.Places.{byte_order}
use Rattle.pj_cache.specs.declared.cache.KeyRows.{KeyRows}
use Rattle.pj_cache.specs.declared.cache.CachedResult.{CachedResult}
use Rattle.pj_fitting.specs.Right.{Key}
use Rattle.pj_fitting.specs.Left.{row_of, rows_or_none}

-- what is said of a rule where this is the row of its key: nothing, where it is not active
abbrev pub said_by : Option KeyRows → Bool → Ruled
said_by row is_active = if is_active then rows_or_none row else ruled.Spots []

-- what results say of rules, from the key of each rule and whether it is active
abbrev pub said_of_rules : List CachedResult → List Key → List Bool → List Ruled
said_of_rules results [] active = []
said_of_rules results (key ∷ keys) [] = []
said_of_rules results (key ∷ keys) (is_active ∷ active) = said_by (row_of results key) is_active ∷ said_of_rules results keys active

-- Rows by their keys.

abbrev pub Rows : Type 0
Rows = List (Key × KeyRows)

abbrev pub row_at : Rows → Key → Option KeyRows
row_at rows key = lookup (is_at (byte_order key)) rows

-- with a row, unless there is one of its key
abbrev pub with_row : Rows → KeyRows → Rows
with_row rows k = if is_some (row_at rows k.key) then rows else insert_entry byte_order rows k.key k

abbrev pub with_group : Rows → List KeyRows → Rows
with_group rows [] = rows
with_group rows (k ∷ ks) = with_group (with_row rows k) ks

abbrev pub with_groups : Rows → List CachedResult → Rows
with_groups rows [] = rows
with_groups rows (r ∷ rs) = with_groups (with_group rows r.group) rs

-- what rows by their keys say of rules
abbrev pub said_from : Rows → List Key → List Bool → List Ruled
said_from rows [] active = []
said_from rows (key ∷ keys) [] = []
said_from rows (key ∷ keys) (is_active ∷ active) = said_by (row_at rows key) is_active ∷ said_from rows keys active
