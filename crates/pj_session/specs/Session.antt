-- What a session answers: a run for each of several worlds, one after the other, by the same words and over one keeper.
use Rattle.std.specs.Prelude.{⊤, ◌≡◌, ◌≢◌, ◌++◌, ◌∷◌, [], ℕ, List, length, Some, Result, Ok, Err}
use Rattle.std.specs.List.{All, AllZip}
use Rattle.pj_outside.specs.Doors.{ClassFolders}
use Rattle.pj_outside.specs.Files.{Bytes, Files, bytes_at}
use Rattle.pj_settings.specs.Job.{job}
use Rattle.pj_settings.specs.declared.settings.Settings.{Settings}
use Rattle.pj_check.specs.Caching.{ContentFits}
use Rattle.pj_check.specs.Outcome.{IsReady}
use Rattle.pj_check.specs.Refused.{IsRefused}
use Rattle.pj_check.specs.Run.{IsRun, Run, text_of}
use Rattle.pj_check.specs.declared.outcome.Outcome.{Outcome}
use Rattle.pj_session.specs.declared.fault.SessionFault.{SessionFault}
use Rattle.pj_session.specs.declared.fault.SessionFault.TheVariants as fault
use Rattle.pj_session.specs.declared.world.World.{World}

-- ---- one world

-- its class folders by name; none stands behind those that words name
abbrev pub class_folders : World → ClassFolders
class_folders world = record { named = world.folders; fixed = [] }

-- Words have a run over a world.
pub record HasRun (words : List Bytes) (world : World) : Type 0 where
  pub run : Run
  pub is_run : IsRun words world.files (class_folders world) run

-- A text is that of the cold report of a world, by these words.
pub record IsReportOf (words : List Bytes) (world : World) (text : Bytes) : Type 0 where
  pub run : Run
  pub is_run : IsRun words world.files (class_folders world) run
  pub text_is : text ≡ text_of run

-- Nothing refuses the run over a world before its sources are analysed.
abbrev pub IsReadyIn : List Bytes → World → Type 0
IsReadyIn words world = IsReady words world.files

-- It has no cause of refusal.
abbrev pub IsUnrefused : List Bytes → World → Type 0
IsUnrefused words world = (outcome : Outcome) → IsRefused words world.files outcome → ⊥

-- ---- several worlds

-- The world at a place, counted from 0, is refused so, and this holds of each one before it.
pub record IsRefusedBehind (Before : World → Type 0) (words : List Bytes) (worlds : List World) (place : ℕ) (outcome : Outcome) : Type 0 where
  pub front : List World
  pub world : World
  pub rest : List World
  pub parts : worlds ≡ front ++ world ∷ rest
  pub place_is : length front ≡ place
  pub before : All Before front
  pub refused : IsRefused words world.files outcome

-- What an answer says of the worlds, whatever the keeper has: nothing refuses a world that has a report, nor one before the first that is refused. Of want of memory it says nothing.
abbrev pub SaysOfFiles : List Bytes → List World → Result (List Bytes) SessionFault → Type 0
SaysOfFiles words worlds (Ok reports) = All (IsReadyIn words) worlds
SaysOfFiles words worlds (Err (fault.Run place outcome)) = IsRefusedBehind (IsReadyIn words) words worlds place outcome
SaysOfFiles words worlds (Err fault.Memory) = ⊤

-- What it says if what the keeper has under the name of the cache fits: there is the cold report of each world, in their order; or the world at this place is refused, and each one before it has a run.
abbrev pub Says : List Bytes → List World → Result (List Bytes) SessionFault → Type 0
Says words worlds (Ok reports) = AllZip (IsReportOf words) worlds reports
Says words worlds (Err (fault.Run place outcome)) = IsRefusedBehind (HasRun words) words worlds place outcome
Says words worlds (Err fault.Memory) = ⊤

-- ---- the keeper

-- Under each name stands what fits, if it did so before.
abbrev pub StaysFitting : Files → Files → Type 0
StaysFitting old new = (name : Bytes) → ContentFits (bytes_at old name) → ContentFits (bytes_at new name)

-- A name is not that of the cache for which words ask.
abbrev pub IsNotCache : List Bytes → Bytes → Type 0
IsNotCache words name = (settings : Settings) → job words ≡ Ok settings → settings.cache ≢ Some name

-- All such names keep their bytes.
abbrev pub KeepsOthers : List Bytes → Files → Files → Type 0
KeepsOthers words old new = (name : Bytes) → IsNotCache words name → bytes_at new name ≡ bytes_at old name
