-- What follows from the definitions.
use Rattle.std.specs.Prelude.{◌≡◌, ◌⊎◌, ℕ, List, Result, Err}
use Rattle.std.specs.List.{AllZip}
use Rattle.pj_outside.specs.Files.{Bytes}
use Rattle.pj_check.specs.declared.outcome.Outcome.{Outcome}
use Rattle.pj_session.specs.Session.{IsRefusedBehind, IsReportOf, IsUnrefused, Says}
use Rattle.pj_session.specs.declared.fault.SessionFault.{SessionFault}
use Rattle.pj_session.specs.declared.fault.SessionFault.TheVariants as fault
use Rattle.pj_session.specs.declared.world.World.{World}

-- The first world that is refused is told, with the cause of its refusal, unless memory is wanting: so an answer tells a refusal exactly where there is one.
abbrev pub FirstRefusalIsTold : Type 0
FirstRefusalIsTold = (words : List Bytes) (worlds : List World) (answer : Result (List Bytes) SessionFault) (place : ℕ) (outcome : Outcome)
    → Says words worlds answer → IsRefusedBehind (IsUnrefused words) words worlds place outcome → (answer ≡ Err (fault.Run place outcome)) ⊎ (answer ≡ Err fault.Memory)

-- Words and worlds have one list of cold reports at most.
abbrev pub OneListOfReports : Type 0
OneListOfReports = (words : List Bytes) (worlds : List World) (a b : List Bytes) → AllZip (IsReportOf words) worlds a → AllZip (IsReportOf words) worlds b → a ≡ b
