use Rattle.std.proofs.Common.{List, Ok, take}
use Rattle.std.specs.List.{AllZip}
use Rattle.pj_workers.specs.Chosen.{chosen}
use Rattle.pj_workers.specs.FileMeaning.{rule_at}
use Rattle.pj_workers.specs.JavaReplies.{java_replies}
use Rattle.pj_workers.specs.Results.{came_to}
use Rattle.pj_workers.specs.Rules.{IsRuleOf, Rule}
use Rattle.pj_workers.specs.Views.{AreRight, file_seen}
use Rattle.pj_workers.proofs.Resting.{AreRested}
use Rattle.pj_workers.proofs.Running.{AtTurn}
use Rattle.pj_workers.proofs.runs.runs_with.Given as goal

abbrev pub invariant-loop-number : goal.invariant-loop-number
invariant-loop-number g l =
    let meaning = rule_at java_replies l.file.path.now (Ok (file_seen l.file)) in
    let t = g.O.Oracle.tells l.fn.oracle in
    record {
      asks : (meant : List Rule) → AllZip (IsRuleOf l.file.marker.now) l.rules meant → AtTurn meaning (chosen l.which meant) t (came_to l.runs) l.number-index (g.O.Oracle.tells l.oracle);
      rest : (meant : List Rule) → AllZip (IsRuleOf l.file.marker.now) l.rules meant → AreRested t meaning (take l.number-index (chosen l.which meant)) l.runs;
      right : AreRight (file_seen l.file).tree (g.O.Oracle.tells l.oracle) l.held l.types.entries;
    }
