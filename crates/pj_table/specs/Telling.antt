-- What the oracles over doors and seats tell.
use Rattle.std.specs.Borrow.{GName}
use Rattle.std.specs.Prelude.{ℕ, is_some}
use Rattle.pj_names.specs.ClassName.{NameSet}
use Rattle.pj_names.specs.Told.{Told}
use Rattle.pj_table.specs.Worlds.{World}
use Rattle.pj_table.specs.ClassWorld.{worlds_of}

-- what an oracle over class folders tells, from what it keeps, the folders, the names that were asked, and the door's count
-- of faults
abbrev pub tells_of : {K : Type 0} → K → World → NameSet → ℕ → Told K
tells_of kept world asked faults = record { is_told = is_some world; world = worlds_of world; kept = kept; asked = asked; faults = faults }

-- What an oracle over a door keeps in every call: the reference by which the door is held, and how many finds the door had
-- when the oracle was made.
pub record OverDoor : Type 0 where
  pub reference : GName
  pub finds : ℕ
