-- Doors for several workers.
use Rattle.std.specs.Prelude.{◌≡◌, ℕ, zero, suc, List, [], ◌∷◌}
use Rattle.pj_outside.specs.Doors.{count_and}
use Rattle.pj_outside.specs.Faults.{next_count}
use Rattle.pj_table.specs.Worlds.{World}

-- A door of this world was just opened.
pub record IsNewDoor {D : Type 0} (holds : D → World) (finds faults : D → ℕ) (world : World) (door : D) : Type 0 where
  pub world_is : holds door ≡ world
  pub no_finds : finds door ≡ 0
  pub no_faults : faults door ≡ 0

-- a count after so many more, or the greatest number that a count can have
abbrev pub counted_on : ℕ → ℕ → ℕ
counted_on zero count = count
counted_on (suc more) count = next_count (counted_on more count)

-- a count of finds with those of doors, the last one first
abbrev pub with_finds : {D : Type 0} → (D → ℕ) → List D → ℕ → ℕ
with_finds finds [] count = count
with_finds finds (door ∷ doors) count = count_and (with_finds finds doors count) (finds door)
