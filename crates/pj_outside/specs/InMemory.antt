-- What objects in memory hold.
use Rattle.std.specs.Prelude.{◌≡◌, Result, Ok, Err, ℕ, List, Contains}
use Rattle.pj_outside.specs.declared.refused.Refused.{Refused}
use Rattle.pj_outside.specs.declared.refused.Refused.TheVariants as refused
use Rattle.pj_outside.specs.declared.refused.Failed.{Failed}
use Rattle.pj_outside.specs.Faults.{next_count}
use Rattle.pj_outside.specs.Files.{Files, Bytes}
use Rattle.pj_outside.specs.Doors.{Folders}

-- the numbers of the calls that are to fail, counted from 1, and how many calls were made and failed
pub record FaultPlan : Type 0 where
  pub fail : List ℕ
  pub calls : ℕ
  pub faults : ℕ

abbrev pub new_plan : List ℕ → FaultPlan
new_plan fail = record { fail = fail; calls = 0; faults = 0 }

-- The next call is to fail.
abbrev pub IsDue : FaultPlan → Type 0
IsDue p = Contains p.fail (next_count p.calls)

-- one call more
abbrev pub called : FaultPlan → FaultPlan
called p = record { fail = p.fail; calls = next_count p.calls; faults = p.faults }

-- one call and one fault more
abbrev pub failed : FaultPlan → FaultPlan
failed p = record { fail = p.fail; calls = next_count p.calls; faults = next_count p.faults }

-- A call of a tree: it is counted, and so is its fault where it failed. Want of memory is no fault.
abbrev pub PlanAfter : {A : Type 0} → FaultPlan → FaultPlan → Result A Refused → Type 0
PlanAfter old new (Ok a) = new ≡ called old
PlanAfter old new (Err refused.Failed) = new ≡ failed old
PlanAfter old new (Err refused.Memory) = new ≡ called old

-- A call that can only fail: it is counted, and so is its fault where it failed.
abbrev pub PlanAfterPut : {A : Type 0} → FaultPlan → FaultPlan → Result A Failed → Type 0
PlanAfterPut old new (Ok a) = new ≡ called old
PlanAfterPut old new (Err e) = new ≡ failed old

-- a tree in memory
pub record TreeHeld : Type 0 where
  pub files : Files
  pub plan : FaultPlan

-- a keeper in memory: names with their bytes
pub record KeeperHeld : Type 0 where
  pub files : Files
  pub plan : FaultPlan

-- a sink in memory
pub record SinkHeld : Type 0 where
  pub bytes : Bytes
  pub plan : FaultPlan

-- a door in memory; its plan counts the finds
pub record DoorHeld : Type 0 where
  pub folders : List Files
  pub plan : FaultPlan

-- a class path in memory: its folders, the plan of its calls of `open`, the pairs of a door and a find that are to fail,
-- and the counts of doors given, doors taken and finds
pub record ClassPathHeld : Type 0 where
  pub folders : Folders
  pub plan : FaultPlan
  pub door_fail : List (ℕ × ℕ)
  pub given : ℕ
  pub taken : ℕ
  pub finds : ℕ
