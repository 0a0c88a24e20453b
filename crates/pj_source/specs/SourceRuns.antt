-- What a source keeps of the places of its text: runs of characters that take equally many bytes, and stand on one line, each a column behind the one before. No public clause names it.
use Rattle.std.specs.Prelude.{ℕ, zero, suc, ◌≡◌, ◌+◌, ◌-◌, ◌*◌, ◌/◌, ◌<◌, ◌≤◌, nat_le, if◌then◌else◌, List, [], ◌∷◌, ◌++◌, length, slice_index_or}
use Rattle.pj_tree.specs.declared.node.Place.{Place}
use Rattle.pj_source.specs.declared.source.run.Run.{Run}

abbrev pub no_run : Run
no_run = record { from = 0; width = 0; place = record { line = 0; column = 0 } }

abbrev pub run_at : List Run → ℕ → Run
run_at runs k = slice_index_or runs k no_run

-- the place of an offset in the run: a column on for each character before
abbrev pub place_in : Run → ℕ → Place
place_in r offset = record { line = r.place.line; column = r.place.column + (offset - r.from) / r.width }

-- the last of the runs that begins at the offset or before, and r where none does
abbrev pub run_for : Run → List Run → ℕ → Run
run_for r [] offset = r
run_for r (s ∷ ss) offset = if nat_le s.from offset then run_for s ss offset else run_for r ss offset

abbrev pub place_by : List Run → ℕ → Place
place_by runs offset = place_in (run_for no_run runs offset) offset

-- the values of f at the numbers below n, in order
abbrev pub each_below : (ℕ → Place) → ℕ → List Place
each_below f zero = []
each_below f (suc n) = each_below f n ++ f n ∷ []

-- the places that the runs say, for each offset up to and including the end
abbrev pub places_by : List Run → ℕ → List Place
places_by runs end = each_below (place_by runs) (end + 1)

-- of the runs of a text that is so long; the columns fit while so many bytes of the file are left
pub record AreInOrder (runs : List Run) (end left : ℕ) : Type 0 where
  pub some : 0 < length runs
  pub begins : (run_at runs 0).from ≡ 0
  pub sorted : (i j : ℕ) → i ≤ j → j < length runs → (run_at runs i).from ≤ (run_at runs j).from
  pub within : (i : ℕ) → i < length runs → (run_at runs i).from ≤ end
  pub widths : (i : ℕ) → i < length runs → 0 < (run_at runs i).width
  pub columns : (i : ℕ) → i < length runs → (run_at runs i).place.column + (end + left) ≤ (run_at runs i).from + 4294967295
  pub small : end + left ≤ 4294967294

abbrev pub last_run : List Run → Run
last_run runs = run_at runs (length runs - 1)

-- of runs that say the places of all offsets below one
pub record AreRuns (runs : List Run) (offset left : ℕ) : Type 0 where
  pub order : AreInOrder runs offset left
  pub passed : ℕ
  pub whole : offset ≡ passed * (last_run runs).width + (last_run runs).from

-- the last run takes the next character, which is as wide as said and stands at a place
pub record Takes (runs : List Run) (offset width : ℕ) (place : Place) : Type 0 where
  pub width_is : (last_run runs).width ≡ width
  pub place_is : place_in (last_run runs) offset ≡ place

-- nothing changed below an offset
abbrev pub SameBelow : List Run → List Run → ℕ → Type 0
SameBelow old new offset = (k : ℕ) → k < offset → place_by new k ≡ place_by old k
