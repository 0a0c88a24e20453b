-- What a worker does: it claims files until none is left, and works at each of them through its seat.
use Rattle.std.specs.Prelude.{◌≡◌, ℕ, ◌+◌, ◌-◌, ◌^◌, ◌≤◌, min, List, ◌++◌, IsTrue, Result, IsErrOf, is_some, length, map}
use Rattle.std.specs.FinSet as set
use Rattle.std.specs.List.{AllZip, flat_map}
use Rattle.pj_names.specs.declared.oracle.AskFault.{AskFault}
use Rattle.pj_names.specs.declared.oracle.AskFault.TheVariants.{Failed}
use Rattle.pj_names.specs.ClassName.{Name, NameSet, name_set}
use Rattle.pj_names.specs.Told.{Told, UnlessFailed, Worlds}
use Rattle.pj_table.specs.ClassWorld.{worlds_of}
use Rattle.pj_table.specs.Plays.{Rests}
use Rattle.pj_table.specs.Worlds.{World}
use Rattle.pj_table.specs.declared.view.View.{View}
use Rattle.pj_seats.specs.Looks.{AreLooksOf, CountsFinds, looks_since}

-- An oracle stays one of the same worlds and keeps what it keeps. Its count of faults never falls, and stays but for a call that
-- answers `Failed`; that answer comes only where it rose, or stands at its type's end.
pub record Stays {K A : Type 0} (old new : Told K) (result : Result A AskFault) : Type 0 where
  pub same_told : new.is_told ≡ old.is_told
  pub same_world : new.world ≡ old.world
  pub same_kept : new.kept ≡ old.kept
  pub faults_grow : old.faults ≤ new.faults
  pub faults_stay : UnlessFailed result (new.faults ≡ old.faults)
  pub failed : IsErrOf result Failed → min (old.faults + 1) (2 ^ 64 - 1) ≤ new.faults

-- What came of a file, with the names that were asked for it, each once. Where the world is told, it comes so there, with just these
-- names.
pub record IsMadeOf {M : Type 0} (world : World) (comes : Worlds → NameSet → M → Type 0) (made : M) (names : List Name) : Type 0 where
  pub once : set.len (name_set names) ≡ length names
  pub comes_so : IsTrue (is_some world) → comes (worlds_of world) (name_set names) made

-- The seat claimed these files, in this order, and asked these names: its list has one entry more for each, on the part of the name.
-- All else that it knows is as it was, but that it may have drawn a number past the files.
pub record Works (before after : View) (files : List ℕ) (names : List Name) : Type 0 where
  pub looks : AreLooksOf names (looks_since before after)
  pub own : after.own ≡ record before.own { past = after.own.past; claims = before.own.claims ++ files; asked = before.own.asked ++ looks_since before after }
  pub rests : Rests before after

-- What a worker did: what came of each file that it claimed, with the number of the file, in the order of the claims; the seat gained
-- one entry for each name of each of these files, and the door's finds rose by the number of fills among them.
pub record IsShare {M : Type 0} (world : World) (comes : ℕ → Worlds → NameSet → M → Type 0) (before after : View) (old new : ℕ) (results : List (ℕ × M)) : Type 0 where
  pub asked : List (List Name)
  pub made : AllZip (λ (result : ℕ × M) names. IsMadeOf world (comes result.0) result.1 names) results asked
  pub works : Works before after (map (λ (result : ℕ × M). result.0) results) (flat_map (λ (names : List Name). names) asked)
  pub finds : CountsFinds old new (looks_since before after)
