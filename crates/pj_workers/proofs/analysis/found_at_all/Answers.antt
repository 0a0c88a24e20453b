use Rattle.std.proofs.Common.{◌≡◌, ◌+◌, ◌++◌, ◌∙◌, List, [], ◌∷◌, Err, Ok, ap, drop, get_or, refl, rules, subst, sym}
use Rattle.std.proofs.lemmas.Result.{err_from_is_err_and}
use Rattle.pj_reports.specs.declared.ruled.Spot.{Spot}
use Rattle.pj_names.proofs.AskingLaws.{ComesTo, asks-stop, comes-begin, comes-ends, comes-then}
use Rattle.pj_names.specs.Told.{Asks}
use Rattle.pj_tree.specs.declared.node.Node.{Node}
use Rattle.pj_xsteps.specs.Means.{Means, after}
use Rattle.pj_xvalue.specs.Replies.{outcome}
use Rattle.pj_xlaws.specs.Laws.{Reply}
use Rattle.pj_workers.specs.RuleMeaning.{found_at}
use Rattle.pj_workers.specs.Views.{file_seen, found_there, rule_seen}
use Rattle.pj_workers.proofs.Evaluating.{refused}
use Rattle.pj_workers.proofs.Finding.{found_begin, found_behind, found_turn}
use Rattle.pj_workers.proofs.analysis.found_at_all.Goals as goal

pub loop-n-init : goal.loop-n-init
loop-n-init g c =
    let reply = g.C.Calls.reply c.args.calls.now in
    let file = file_seen c.args.view.now.file.now in
    let rule = rule_seen c.args.view.now in
    let t = g.C.Calls.tells c.args.calls.now in
    record {
      nodes = refl;
      same_reply = refl;
      rest = subst (λ (m : Means (List Spot)). ComesTo (found_at reply file rule c.args.nodes.now) t m t)
          (sym (ap (λ (all : List Spot). found_behind reply file rule all c.args.nodes.now) c.new-all.ensures ∙ found_begin reply file rule c.args.nodes.now)) comes-begin;
    }

pub returns-in_err-found-clause-asks : goal.returns-in_err-found-clause-asks
returns-in_err-found-clause-asks g c =
    let reply = g.C.Calls.reply c.args.calls.now in
    let file = file_seen c.args.view.now.file.now in
    let rule = rule_seen c.args.view.now in
    let nodes = c.args.nodes.now in
    let i = c.loop-n.n-index in
    let first : Node = record { 0 = 0 } in
    let n = get_or nodes i first in
    let t = g.C.Calls.tells c.loop-n.calls in
    let u = g.C.Calls.tells c.found_at.new.calls in
    let next : Spot → Means (List Spot) = λ f. found_behind reply file rule (c.loop-n.all ++ f ∷ []) (drop (i + 1) nodes) in
    let so_far = subst (λ (m : Means (List Spot)). ComesTo (found_at reply file rule nodes) (g.C.Calls.tells c.args.calls.now) m t) (found_turn reply file rule c.loop-n.all nodes i first c.loop-n-test.true) c.loop-n.invariant.rest in
    let asked = subst (λ (r : Reply). Asks (found_there r file rule n) t u (outcome (λ (found : Spot). found) (Err c.in_err-found.field-0.0))) c.loop-n.invariant.same_reply c.in_err-found.ensures.asks in
    let p = err_from_is_err_and c.from_residual.result c.from_residual.ensures.1 in
    rw (p.1, p.2) (comes-ends so_far (refused (found_there reply file rule n) next (λ (found : Spot). found) (λ (found : List Spot). found) c.in_err-found.field-0.0 asked))

pub returns-in_err-push-clause-asks : goal.returns-in_err-push-clause-asks
returns-in_err-push-clause-asks g c =
    let reply = g.C.Calls.reply c.args.calls.now in
    let file = file_seen c.args.view.now.file.now in
    let rule = rule_seen c.args.view.now in
    let nodes = c.args.nodes.now in
    let i = c.loop-n.n-index in
    let first : Node = record { 0 = 0 } in
    let n = get_or nodes i first in
    let t = g.C.Calls.tells c.loop-n.calls in
    let u = g.C.Calls.tells c.found_at.new.calls in
    let next : Spot → Means (List Spot) = λ f. found_behind reply file rule (c.loop-n.all ++ f ∷ []) (drop (i + 1) nodes) in
    let so_far = subst (λ (m : Means (List Spot)). ComesTo (found_at reply file rule nodes) (g.C.Calls.tells c.args.calls.now) m t) (found_turn reply file rule c.loop-n.all nodes i first c.loop-n-test.true) c.loop-n.invariant.rest in
    let asked = subst (λ (r : Reply). Asks (found_there r file rule n) t u (Ok (Ok c.in_ok-found.found))) c.loop-n.invariant.same_reply c.in_ok-found.ensures.asks in
    let p = err_from_is_err_and c.from_residual-in_err-push.result c.from_residual-in_err-push.ensures.1 in
    rw (p.1, p.2) (comes-ends (comes-then (after next) so_far asked) (asks-stop refl))

pub loop-n-preserved : goal.loop-n-preserved
loop-n-preserved g c =
    let reply = g.C.Calls.reply c.args.calls.now in
    let file = file_seen c.args.view.now.file.now in
    let rule = rule_seen c.args.view.now in
    let nodes = c.args.nodes.now in
    let i = c.loop-n.n-index in
    let first : Node = record { 0 = 0 } in
    let n = get_or nodes i first in
    let t = g.C.Calls.tells c.loop-n.calls in
    let u = g.C.Calls.tells c.found_at.new.calls in
    let next : Spot → Means (List Spot) = λ f. found_behind reply file rule (c.loop-n.all ++ f ∷ []) (drop (i + 1) nodes) in
    let so_far = subst (λ (m : Means (List Spot)). ComesTo (found_at reply file rule nodes) (g.C.Calls.tells c.args.calls.now) m t) (found_turn reply file rule c.loop-n.all nodes i first c.loop-n-test.true) c.loop-n.invariant.rest in
    let asked = subst (λ (r : Reply). Asks (found_there r file rule n) t u (Ok (Ok c.in_ok-found.found))) c.loop-n.invariant.same_reply c.in_ok-found.ensures.asks in
    let grown : c.loop-n.all ++ c.in_ok-found.found ∷ [] ≡ c.push.new.self = search rules in
    record {
      nodes = c.found_at.ensures.nodes ∙ c.loop-n.invariant.nodes;
      same_reply = c.found_at.ensures.reply ∙ c.loop-n.invariant.same_reply;
      rest = subst (λ (all : List Spot). ComesTo (found_at reply file rule nodes) (g.C.Calls.tells c.args.calls.now) (found_behind reply file rule all (drop (i + 1) nodes)) u) grown (comes-then (after next) so_far asked);
    }
