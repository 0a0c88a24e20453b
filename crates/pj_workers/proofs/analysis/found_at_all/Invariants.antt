use Rattle.std.proofs.Common.{◌≡◌, drop}
use Rattle.pj_names.proofs.AskingLaws.{ComesTo}
use Rattle.pj_workers.specs.RuleMeaning.{found_at}
use Rattle.pj_workers.specs.Views.{file_seen, rule_seen}
use Rattle.pj_workers.proofs.Finding.{found_behind}
use Rattle.pj_workers.proofs.analysis.found_at_all.Given as goal

abbrev pub invariant-loop-n : goal.invariant-loop-n
invariant-loop-n g l =
    let reply = g.C.Calls.reply l.fn.calls in
    let file = file_seen l.view.file.now in
    let rule = rule_seen l.view in
    record {
      nodes : g.C.Calls.nodes l.calls ≡ g.C.Calls.nodes l.fn.calls;
      same_reply : g.C.Calls.reply l.calls ≡ reply;
      rest : ComesTo (found_at reply file rule l.nodes) (g.C.Calls.tells l.fn.calls) (found_behind reply file rule l.all (drop l.n-index l.nodes)) (g.C.Calls.tells l.calls);
    }
