use Rattle.std.proofs.Common.{Result, map, refl, subst}
use Rattle.std.proofs.lemmas.Result.{err_from_is_err_and}
use Rattle.pj_cached_files.specs.LeftFiles.{ArePartedBy}
use Rattle.pj_names.specs.declared.oracle.AskFault.{AskFault}
use Rattle.pj_names.specs.declared.oracle.AskFault.TheVariants.{Memory}
use Rattle.pj_outside.specs.Files.{Bytes, Files}
use Rattle.pj_workers.specs.JavaReplies.{java_replies}
use Rattle.pj_cold.specs.Steps.{CountsDoorFaults}
use Rattle.pj_check.specs.Caching.{WorkSeen}
use Rattle.pj_check.specs.declared.analysing.Analysed.{Analysed}
use Rattle.pj_cold.proofs.Told.{result_on}
use Rattle.pj_check.proofs.OverCache.{done_at_door, held_of, over_door}
use Rattle.pj_check.proofs.analysing.cached_report.Goals as goal

pub returns-in_err-grammar-clause-faults : goal.returns-in_err-grammar-clause-faults
returns-in_err-grammar-clause-faults g c =
    let old = g.D.ClassDoor.faults c.args.door.now in
    let exit = err_from_is_err_and c.from_residual.result c.from_residual.ensures.1 in
    result_on (λ (w : Result Analysed AskFault). CountsDoorFaults old (g.D.ClassDoor.faults c.args.door.now) w) c.from_residual.result exit.0 Memory exit.1 exit.2 refl

pub returns-in_err-keys-clause-faults : goal.returns-in_err-keys-clause-faults
returns-in_err-keys-clause-faults g c =
    let old = g.D.ClassDoor.faults c.args.door.now in
    let exit = err_from_is_err_and c.from_residual-in_err-keys.result c.from_residual-in_err-keys.ensures.1 in
    result_on (λ (w : Result Analysed AskFault). CountsDoorFaults old (g.D.ClassDoor.faults c.args.door.now) w) c.from_residual-in_err-keys.result exit.0 Memory exit.1 exit.2 refl

pub returns-in_err-left-clause-faults : goal.returns-in_err-left-clause-faults
returns-in_err-left-clause-faults g c =
    let old = g.D.ClassDoor.faults c.args.door.now in
    let exit = err_from_is_err_and c.from_residual-in_err-left.result c.from_residual-in_err-left.ensures.1 in
    result_on (λ (w : Result Analysed AskFault). CountsDoorFaults old (g.D.ClassDoor.faults c.files_over_door.new.door) w) c.from_residual-in_err-left.result exit.0 c.in_err-left.field-0.0 exit.1 exit.2 c.in_err-left.ensures.faults

pub returns-in_err-report-clause-faults : goal.returns-in_err-report-clause-faults
returns-in_err-report-clause-faults g c =
    let old = g.D.ClassDoor.faults c.args.door.now in
    let exit = err_from_is_err_and c.from_residual-in_err-report.result c.from_residual-in_err-report.ensures.1 in
    result_on (λ (w : Result Analysed AskFault). CountsDoorFaults old (g.D.ClassDoor.faults c.files_over_door.new.door) w) c.from_residual-in_err-report.result exit.0 Memory exit.1 exit.2 c.in_ok-left.ensures.faults

pub returns-clause-over : goal.returns-clause-over
returns-clause-over g c =
    let set = c.args.rules.now in
    let meant = c.sets_have_rules.ensures.0 in
    let are = c.sets_have_rules.ensures.1 in
    let files = c.written_rules_have_files.ensures java_replies in
    let held = held_of set meant are c.in_ok-keys.ensures.room c.rules_of_sets_are_written.ensures in
    over_door (g.D.ClassDoor.holds c.args.door.now) set c.args.found.now c.args.sources.now c.as_slice.result.now c.in_ok-left.left c.in_ok-report.report meant held.0 files.0
    c.as_slice.ensures are held.1 files.1 c.left_caches_make_cold_reports.ensures.cold c.in_ok-left.ensures.left c.in_ok-report.ensures.rules c.in_ok-report.ensures.files c.in_ok-report.ensures.errors

pub returns-clause-done : goal.returns-clause-done
returns-clause-done g c =
    let set = c.args.rules.now in
    let before : WorkSeen = record { work = c.args.work.now; finds = g.D.ClassDoor.finds c.args.door.now } in
    let after : WorkSeen = record { work = c.files_over_door.new.work; finds = g.D.ClassDoor.finds c.files_over_door.new.door } in
    let meant = c.sets_have_rules.ensures.0 in
    let held = held_of set meant c.sets_have_rules.ensures.1 c.in_ok-keys.ensures.room c.rules_of_sets_are_written.ensures in
    done_at_door (g.D.ClassDoor.holds c.args.door.now) set c.args.found.now c.args.sources.now c.as_slice.result.now before after meant held.0 c.as_slice.ensures held.1 c.in_ok-left.ensures.done

pub returns-clause-parts : goal.returns-clause-parts
returns-clause-parts g c =
    subst (λ (list : Files). ArePartedBy (map (λ (file : Bytes × Bytes). file.0) list) c.args.work.now c.files_over_door.new.work) c.as_slice.ensures c.in_ok-left.ensures.parts
