use Rattle.std.proofs.Common.{List, Result}
use Rattle.std.proofs.lemmas.Result.{err_from_is_err_and}
use Rattle.pj_names.specs.declared.oracle.AskFault.{AskFault}
use Rattle.pj_outside.specs.Files.{Bytes}
use Rattle.pj_reports.specs.declared.rows.FileRows.{FileRows}
use Rattle.pj_cold.specs.Steps.{CountsDoorFaults}
use Rattle.pj_cold.proofs.Told.{result_on}
use Rattle.pj_cold.proofs.Gathering.{rows_same}
use Rattle.pj_cold.proofs.cold.all_rows.Goals as goal

pub returns-in_err-found-clause-faults : goal.returns-in_err-found-clause-faults
returns-in_err-found-clause-faults g c =
    let old = g.D.ClassDoor.faults c.args.door.now in
    let new = g.D.ClassDoor.faults c.file_results.new.door in
    let exit = err_from_is_err_and c.from_residual.result c.from_residual.ensures.1 in
    result_on (λ (w : Result (List (Bytes × FileRows)) AskFault). CountsDoorFaults old new w) c.from_residual.result exit.0 c.in_err-found.field-0.0 exit.1 exit.2 c.in_err-found.ensures.faults

pub returns-in-Ok-clause-rows : goal.returns-in-Ok-clause-rows
returns-in-Ok-clause-rows g c =
    rows_same (g.D.ClassDoor.holds c.args.door.now) c.args.rules.now c.args.files.now c.in_ok-found.found c.in-Ok.rows c.in-Ok.ensures c.in_ok-found.ensures.found
