use Rattle.std.proofs.Common.{Option, Ok, ap}
use Rattle.std.proofs.lemmas.Result.{err_from_is_err_and}
use Rattle.pj_reports.specs.declared.ruled.Spot.{Spot}
use Rattle.pj_findings.specs.declared.extent.Extent.{Extent}
use Rattle.pj_names.proofs.AskingLaws.{asks-return, asks-then}
use Rattle.pj_reports.specs.declared.rows.Reason.{Reason}
use Rattle.pj_xsteps.specs.Means.{after, give}
use Rattle.pj_workers.specs.RuleMeaning.{found_of, reason_at, extent_at}
use Rattle.pj_workers.specs.Views.{file_seen, rule_seen}
use Rattle.pj_workers.proofs.Evaluating.{refused}
use Rattle.pj_workers.proofs.analysis.found_at.Goals as goal

pub returns-in_err-reason-clause-asks : goal.returns-in_err-reason-clause-asks
returns-in_err-reason-clause-asks g c =
    let reply = g.C.Calls.reply c.args.calls.now in
    let file = file_seen c.args.view.now.file.now in
    let rule = rule_seen c.args.view.now in
    let p = err_from_is_err_and c.from_residual.result c.from_residual.ensures.1 in
    rw (p.1, p.2)
    (refused (reason_at reply file rule c.args.n) (λ (why : Option Reason). give (found_of c.args.n (extent_at reply file rule c.args.n) why))
    (λ (reason : Option Reason). reason) (λ (found : Spot). found) c.in_err-reason.field-0.0 c.in_err-reason.ensures.asks)

pub returns-clause-asks : goal.returns-clause-asks
returns-clause-asks g c =
    let reply = g.C.Calls.reply c.args.calls.now in
    let file = file_seen c.args.view.now.file.now in
    let rule = rule_seen c.args.view.now in
    asks-then (after (λ (why : Option Reason). give (found_of c.args.n (extent_at reply file rule c.args.n) why))) c.in_ok-reason.ensures.asks
    (asks-return (ap (λ (extent : Extent). Ok (Ok (found_of c.args.n extent c.in_ok-reason.reason))) c.extent_at-extent.ensures))
