use Rattle.std.proofs.Common.{List, Result, rules}
use Rattle.pj_reports.specs.declared.ruled.Spot.{Spot}
use Rattle.pj_names.specs.Asking.{Return}
use Rattle.pj_names.proofs.AskingLaws.{asks-refused, asks-return, asks-stop, asks-then}
use Rattle.pj_xvalue.specs.declared.fault.XCode.{XCode}
use Rattle.pj_workers.specs.RuleMeaning.{result_of}
use Rattle.pj_workers.specs.Views.{rule_seen}
use Rattle.pj_workers.proofs.analysis.result_in.Goals as goal

pub returns-in_err-message-in-Err-Code-clause-asks : goal.returns-in_err-message-in-Err-Code-clause-asks
returns-in_err-message-in-Err-Code-clause-asks g c =
    let asked = rw c.in-Err-Code.field-0-is at c.in-Err-Code.ensures.asks in
    asks-then (λ (came_to : Result (List Spot) XCode). Return (result_of (rule_seen c.args.view.now) came_to)) asked (asks-stop (search rules))

pub returns-in-Ok-clause-asks : goal.returns-in-Ok-clause-asks
returns-in-Ok-clause-asks g c =
    let asked = rw c.in-Ok.is at c.found.ensures.asks in
    asks-then (λ (came_to : Result (List Spot) XCode). Return (result_of (rule_seen c.args.view.now) came_to)) asked (asks-return (search rules))

pub returns-in_ok-message-in-Err-Code-clause-asks : goal.returns-in_ok-message-in-Err-Code-clause-asks
returns-in_ok-message-in-Err-Code-clause-asks g c =
    let asked = rw c.in-Err-Code.field-0-is at c.in-Err-Code.ensures.asks in
    asks-then (λ (came_to : Result (List Spot) XCode). Return (result_of (rule_seen c.args.view.now) came_to)) asked (asks-return (search rules))

pub returns-in-Err-Ask-clause-asks : goal.returns-in-Err-Ask-clause-asks
returns-in-Err-Ask-clause-asks g c =
    let asked = rw c.in-Err-Ask.field-0-is at c.in-Err-Ask.ensures.asks in
    asks-refused (λ (came_to : Result (List Spot) XCode). Return (result_of (rule_seen c.args.view.now) came_to)) asked (search rules)
