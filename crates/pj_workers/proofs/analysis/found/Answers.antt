use Rattle.std.proofs.Common.{◌≡◌, ◌∙◌, List, Ok, Err, ap, length, refl, rules, subst, sym}
use Rattle.std.proofs.lemmas.Result.{err_from_is_err_and}
use Rattle.pj_findings.specs.Denoted.{denoted}
use Rattle.pj_reports.specs.declared.ruled.Spot.{Spot}
use Rattle.pj_names.proofs.AskingLaws.{asks-return, asks-stop, asks-then}
use Rattle.pj_names.specs.Told.{Asks}
use Rattle.pj_tree.specs.declared.node.Node.{Node}
use Rattle.pj_xsteps.specs.Means.{Means, after, judged, ◌>>=◌}
use Rattle.pj_xvalue.specs.Items.{ItemValue, values_of}
use Rattle.pj_xvalue.specs.Replies.{outcome}
use Rattle.pj_xlaws.specs.Laws.{Reply}
use Rattle.pj_workers.specs.RuleMeaning.{found_at, items}
use Rattle.pj_workers.specs.Views.{file_seen, rule_seen}
use Rattle.pj_workers.proofs.Evaluating.{nodes_by, refused}
use Rattle.pj_workers.proofs.Nodes.{nodes_inside}
use Rattle.pj_workers.proofs.analysis.found.Goals as goal

pub returns-in_err-items-clause-asks : goal.returns-in_err-items-clause-asks
returns-in_err-items-clause-asks g c =
    let reply = g.C.Calls.reply c.args.calls.now in
    let file = file_seen c.args.view.now.file.now in
    let rule = rule_seen c.args.view.now in
    let p = err_from_is_err_and c.from_residual.result c.from_residual.ensures.1 in
    rw (p.1, p.2)
    (refused (items reply file rule) (λ (values : List ItemValue). judged (denoted values) >>= λ ns. found_at reply file rule ns) values_of (λ (found : List Spot). found)
    c.in_err-items.field-0.0 c.in_err-items.ensures.asks)

pub returns-in_err-nodes-clause-asks : goal.returns-in_err-nodes-clause-asks
returns-in_err-nodes-clause-asks g c =
    let reply = g.C.Calls.reply c.args.calls.now in
    let file = file_seen c.args.view.now.file.now in
    let rule = rule_seen c.args.view.now in
    let p = err_from_is_err_and c.from_residual-in_err-nodes.result c.from_residual-in_err-nodes.ensures.1 in
    rw (p.1, p.2)
    (asks-then (after (λ (values : List ItemValue). judged (denoted values) >>= λ ns. found_at reply file rule ns)) c.in_ok-items.ensures.asks (asks-stop refl))

pub found_at_all-requires-clause-inside : goal.found_at_all-requires-clause-inside
found_at_all-requires-clause-inside g c =
    let is : denoted (values_of c.in_ok-items.items) ≡ Ok c.in-Ok.nodes = search rules in
    nodes_inside (length (file_seen c.args.view.now.file.now).tree.nodes) (values_of c.in_ok-items.items) c.as_slice.result.now c.in_ok-items.ensures.of_tree (is ∙ ap (λ (ns : List Node). Ok ns) (sym c.as_slice.ensures))

pub returns-in-Ok-clause-asks : goal.returns-in-Ok-clause-asks
returns-in-Ok-clause-asks g c =
    let reply = g.C.Calls.reply c.args.calls.now in
    let file = file_seen c.args.view.now.file.now in
    let rule = rule_seen c.args.view.now in
    let t = g.C.Calls.tells c.value_of.new.calls in
    let u = g.C.Calls.tells c.found_at_all.new.calls in
    let ns = c.as_slice.result.now in
    let given : denoted (values_of c.in_ok-items.items) ≡ Ok c.in-Ok.nodes = search rules in
    let is : denoted (values_of c.in_ok-items.items) ≡ Ok ns = given ∙ ap (λ (ns : List Node). Ok ns) (sym c.as_slice.ensures) in
    let asked = subst (λ (r : Reply). Asks (found_at r file rule ns) t u (outcome (λ (found : List Spot). found) c.found_at_all.result)) c.in_ok-items.ensures.reply c.found_at_all.ensures.asks in
    asks-then (after (λ (values : List ItemValue). judged (denoted values) >>= λ ns. found_at reply file rule ns)) c.in_ok-items.ensures.asks
    (subst (λ (m : Means (List Spot)). Asks m t u (outcome (λ (found : List Spot). found) c.found_at_all.result)) (sym (nodes_by reply file rule (values_of c.in_ok-items.items) (Ok ns) is)) asked)

pub returns-in-Err-clause-asks : goal.returns-in-Err-clause-asks
returns-in-Err-clause-asks g c =
    let reply = g.C.Calls.reply c.args.calls.now in
    let file = file_seen c.args.view.now.file.now in
    let rule = rule_seen c.args.view.now in
    let t = g.C.Calls.tells c.value_of.new.calls in
    let is : denoted (values_of c.in_ok-items.items) ≡ Err c.in-Err.code = search rules in
    asks-then (after (λ (values : List ItemValue). judged (denoted values) >>= λ ns. found_at reply file rule ns)) c.in_ok-items.ensures.asks
    (subst (λ (m : Means (List Spot)). Asks m t t (Ok (Err c.in-Err.code))) (sym (nodes_by reply file rule (values_of c.in_ok-items.items) (Err c.in-Err.code) is)) (asks-return refl))
