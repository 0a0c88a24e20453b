-- What the run over a world comes to.
use Rattle.std.proofs.Common.{◌≡◌, ℕ, [], List, Some, Result, Ok, Err, IfErr, IfOk, OnOk, refl, subst, sym}
use Rattle.pj_outside.specs.Files.{Bytes, Files}
use Rattle.pj_workers.specs.declared.work.Work.{Work}
use Rattle.pj_check.specs.Caching.{FindsFitting}
use Rattle.pj_check.specs.Outcome.{IsAnalysed, IsReported}
use Rattle.pj_check.specs.Refused.{IsRefused}
use Rattle.pj_check.specs.Run.{text_of}
use Rattle.pj_check.specs.declared.outcome.Outcome.{Outcome}
use Rattle.pj_check.specs.declared.outcome.Outcome.TheVariants.{Clean, Violations, Errors, Usage, Rules, TreeFault, ClassFault, SinkFault, Missing, Limit, Memory}
use Rattle.pj_check.specs.declared.verdict.Verdict.{Verdict}
use Rattle.pj_session.specs.Session.{IsReadyIn, IsReportOf, class_folders}
use Rattle.pj_session.specs.Steps.{EndsSo, IsRefusedAt, IsRunIn, PutsNothing, PutsReport}
use Rattle.pj_session.specs.declared.fault.SessionFault.{SessionFault}
use Rattle.pj_session.specs.declared.fault.SessionFault.TheVariants as fault
use Rattle.pj_session.specs.declared.world.World.{World}

module _ (words : List Bytes) (world : World) where
  reported : (verdict : Verdict) (text : Bytes) (before after : Work) → IsReported verdict words world.files (class_folders world) (Some []) (Some text) before after → IsReportOf words world text
  reported verdict text before after is =
      let got : Some text ≡ Some (text_of is.run) = is.got in
      let same : text ≡ text_of is.run = cc in
      record { run = is.run; is_run = is.is_run; text_is = same }

  analysed : (before after : Work) → IsAnalysed words world.files before after → IsReadyIn words world
  analysed before after is = record { settings = is.settings; listing = is.listing; rules = is.rules; sources = is.sources; has_rules = is.has_rules; read = is.read }

  module _ (old new : Files) (text : Bytes) where
    run_reports : (outcome : Outcome) → IsRunIn words world old new text outcome → PutsReport outcome → FindsFitting words (Some old) → IsReportOf words world text
    run_reports Clean run puts finds = reported _ text _ _ (run.says finds)
    run_reports Violations run puts finds = reported _ text _ _ (run.says finds)
    run_reports Errors run puts finds = reported _ text _ _ (run.says finds)
    run_reports (Usage fault) run puts finds = absurd puts
    run_reports (Rules fault) run puts finds = absurd puts
    run_reports TreeFault run puts finds = absurd puts
    run_reports ClassFault run puts finds = absurd puts
    run_reports SinkFault run puts finds = absurd puts
    run_reports (Missing path) run puts finds = absurd puts
    run_reports (Limit kind) run puts finds = absurd puts
    run_reports Memory run puts finds = absurd puts

    run_ready : (outcome : Outcome) → IsRunIn words world old new text outcome → PutsReport outcome → IsReadyIn words world
    run_ready Clean run puts = analysed _ _ run.of_files
    run_ready Violations run puts = analysed _ _ run.of_files
    run_ready Errors run puts = analysed _ _ run.of_files
    run_ready (Usage fault) run puts = absurd puts
    run_ready (Rules fault) run puts = absurd puts
    run_ready TreeFault run puts = absurd puts
    run_ready ClassFault run puts = absurd puts
    run_ready SinkFault run puts = absurd puts
    run_ready (Missing path) run puts = absurd puts
    run_ready (Limit kind) run puts = absurd puts
    run_ready Memory run puts = absurd puts

    run_refused : (outcome : Outcome) → IsRunIn words world old new text outcome → PutsNothing outcome → IsRefused words world.files outcome
    run_refused Clean run puts = absurd puts
    run_refused Violations run puts = absurd puts
    run_refused Errors run puts = absurd puts
    run_refused (Usage fault) run puts = run.says
    run_refused (Rules fault) run puts = run.says
    run_refused TreeFault run puts = absurd (run.of_tree refl)
    run_refused ClassFault run puts = absurd (run.of_classes refl)
    run_refused SinkFault run puts = absurd puts
    run_refused (Missing path) run puts = run.says
    run_refused (Limit kind) run puts = run.says
    run_refused Memory run puts = absurd puts

    -- ---- what comes of it

    pub ends_report : (outcome : Outcome) → IsRunIn words world old new text outcome → (place : ℕ) (result : Result Bytes SessionFault) → EndsSo place text outcome result → FindsFitting words (Some old) → IfOk result (IsReportOf words world)
    ends_report outcome run place (Ok report) ends finds = subst (λ (t : Bytes). IsReportOf words world t) (sym ends.0) (run_reports outcome run ends.1 finds)
    ends_report outcome run place (Err e) ends finds = tt

    pub ends_ready : (outcome : Outcome) → IsRunIn words world old new text outcome → (place : ℕ) (result : Result Bytes SessionFault) → EndsSo place text outcome result → OnOk result (IsReadyIn words world)
    ends_ready outcome run place (Ok report) ends = run_ready outcome run ends.1
    ends_ready outcome run place (Err e) ends = tt

    pub ends_refused : (outcome : Outcome) → IsRunIn words world old new text outcome → (place : ℕ) (result : Result Bytes SessionFault) → EndsSo place text outcome result → IfErr result (IsRefusedAt place words world)
    ends_refused outcome run place (Ok report) ends = tt
    ends_refused outcome run place (Err (fault.Run at told)) ends = (ends.0, subst (λ (o : Outcome). IsRefused words world.files o) (sym ends.1) (run_refused outcome run ends.2))
    ends_refused outcome run place (Err fault.Memory) ends = tt
