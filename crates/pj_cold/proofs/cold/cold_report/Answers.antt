use Rattle.std.proofs.Common.{◌∙◌, IfSome, List, Result, subst, sym}
use Rattle.std.proofs.lemmas.Result.{err_from_is_err_and}
use Rattle.std.specs.List.{AllZip}
use Rattle.pj_names.specs.declared.oracle.AskFault.{AskFault}
use Rattle.pj_outside.specs.Files.{Bytes, Files}
use Rattle.pj_reports.specs.declared.report.Report.{Report}
use Rattle.pj_reports.specs.declared.rows.FileRows.{FileRows}
use Rattle.pj_table.specs.ClassWorld.{folders_world}
use Rattle.pj_workers.specs.Cold.{AreRowsOf}
use Rattle.pj_workers.specs.JavaReplies.{java_replies}
use Rattle.pj_cold.specs.Cold.{IsColdOf}
use Rattle.pj_cold.specs.Finds.{CountsAsked}
use Rattle.pj_cold.specs.Steps.{AreRows, CountsDoorFaults}
use Rattle.pj_cold.proofs.Gathering.{rows_are}
use Rattle.pj_cold.proofs.Told.{result_on, told_so}
use Rattle.pj_cold.proofs.cold.cold_report.Goals as goal

pub returns-in_err-files-clause-faults : goal.returns-in_err-files-clause-faults
returns-in_err-files-clause-faults g c =
    let old = g.D.ClassDoor.faults c.args.door.now in
    let new = g.D.ClassDoor.faults c.all_rows.new.door in
    let exit = err_from_is_err_and c.from_residual.result c.from_residual.ensures.1 in
    result_on (λ (w : Result Report AskFault). CountsDoorFaults old new w) c.from_residual.result exit.0 c.in_err-files.field-0.0 exit.1 exit.2 c.in_err-files.ensures.faults

pub returns-in-Ok-clause-cold : goal.returns-in-Ok-clause-cold
returns-in-Ok-clause-cold g c =
    let set = c.args.rules.now in
    let all = c.sets_have_rules.ensures.0 in
    let are = c.sets_have_rules.ensures.1 in
    let files = c.in_ok-files.files in
    let report = c.in-Ok.report in
    told_so (g.D.ClassDoor.holds c.args.door.now) (λ folders. AreRows (folders_world folders).answer set c.as_slice.result.now files) (λ folders. IsColdOf (folders_world folders).answer c.args.sources.now set report)
    (λ folders rows. record {
      rules = all;
      are_rules = are;
      cold = record {
        rules_are = c.in-Ok.ensures.rules ∙ rows_are set.marker set.rules all are;
        files_are = subst (λ (found : List (Bytes × FileRows)). AllZip (AreRowsOf java_replies (folders_world folders).answer all) c.args.sources.now found) (sym c.in-Ok.ensures.files)
            (subst (λ (sources : Files). AllZip (AreRowsOf java_replies (folders_world folders).answer all) sources files) c.as_slice.ensures (rows all are));
        errors_are = c.in-Ok.ensures.errors;
      };
    })
    c.in_ok-files.ensures.rows

pub returns-in-Ok-clause-finds : goal.returns-in-Ok-clause-finds
returns-in-Ok-clause-finds g c =
    subst (λ (list : Files). IfSome (g.D.ClassDoor.holds c.args.door.now) (λ folders. CountsAsked (folders_world folders).answer list c.args.rules.now (g.D.ClassDoor.finds c.args.door.now) (g.D.ClassDoor.finds c.all_rows.new.door)))
    c.as_slice.ensures c.in_ok-files.ensures.finds
