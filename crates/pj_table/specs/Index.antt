-- Where names stand among the entries of a part, by a map.
use Rattle.std.specs.Prelude.{◌≡◌, ℕ, Bool, List}
use Rattle.std.specs.List.{position_from}
use Rattle.std.specs.Map.{lookup}
use Rattle.std.specs.BTreeMap.{is_at}
use Rattle.std.specs.Cmp.Lexicographic.{slice_cmp}
use Rattle.std.specs.Ordering.{nat_cmp}
use Rattle.pj_names.specs.ClassName.{Name}
use Rattle.pj_table.specs.declared.view.Entry.{Entry}

-- whether the entry has the name
abbrev pub is_named : Name → Entry → Bool
is_named name entry = is_at (slice_cmp nat_cmp name) entry.name

-- The map has for each name the place at which it stands first among the entries, and nothing where it does not stand there.
abbrev pub IsIndex : List Entry → List (Name × ℕ) → Type 0
IsIndex entries places = (name : Name) → lookup (is_at (slice_cmp nat_cmp name)) places ≡ position_from (is_named name) 0 entries
