use Rattle.std.proofs.Common.{List, map, take}
use Rattle.std.specs.List.{AllZip}
use Rattle.pj_outside.specs.Files.{Bytes}
use Rattle.pj_workers.specs.FileMeaning.{file_meaning}
use Rattle.pj_workers.specs.JavaReplies.{java_replies}
use Rattle.pj_workers.specs.Results.{IsResultAt}
use Rattle.pj_workers.specs.Rules.{AreRulesOf, Rule}
use Rattle.pj_workers.specs.declared.result.FileResult.{FileResult}
use Rattle.pj_workers.proofs.Running.{AtTurn}
use Rattle.pj_workers.proofs.analyse.analyse_each.Given as goal

abbrev pub invariant-loop-file : goal.invariant-loop-file
invariant-loop-file g l =
    let t = g.O.Oracle.tells l.fn.oracle in
    record {
      asks : (meant : List Rule) → AreRulesOf l.rules meant → AtTurn (λ (file : Bytes × Bytes). file_meaning java_replies file.0 file.1 meant) l.files t (map (λ (of_file : Bytes × FileResult). of_file.1.rows) l.found) l.file-index (g.O.Oracle.tells l.oracle);
      found : (meant : List Rule) → AreRulesOf l.rules meant → AllZip (IsResultAt t java_replies meant) (take l.file-index l.files) l.found;
    }
