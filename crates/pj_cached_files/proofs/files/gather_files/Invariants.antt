use Rattle.std.proofs.Common.{◌≡◌, Bool, List, map, take}
use Rattle.std.specs.List.{AllByRecursion}
use Rattle.pj_cache.specs.declared.cache.Entry.{Entry}
use Rattle.pj_cached_files.specs.Asked.{reused_at}
use Rattle.pj_cached_files.specs.Gathered.{AreParted, Gathers, HasText, ListsGathered, NamesAreAskedAt}
use Rattle.pj_cached_files.specs.LeftFiles.{LooksAtAll, path_rows}
use Rattle.pj_fitting.specs.Left.{File}
use Rattle.pj_workers.proofs.Running.{AtTurn}
use Rattle.pj_workers.specs.Rules.{AreRulesOf, Rule}
use Rattle.pj_cached_files.proofs.files.gather_files.Given as goal

abbrev pub invariant-loop-file : goal.invariant-loop-file
invariant-loop-file g l =
    let t = g.O.Oracle.tells l.fn.oracle in
    let u = g.O.Oracle.tells l.oracle in
    record {
      asks : (meant : List Rule) → AreRulesOf l.run.rules.now meant → (front : List Bool) × AtTurn (reused_at l.run.found.now l.run.rules.now meant) l.files t front l.file-index u;
      gathered : Gathers t l.run.rules.now l.run.found.now (take l.file-index l.files) l.all;
      listed : ListsGathered t l.run.rules.now l.run.found.now (take l.file-index l.files) l.all;
      parted : AreParted (map (λ (f : File). f.0) (take l.file-index l.files)) l.all;
      paths : map (λ (e : Entry). e.path) l.all.entries ≡ map (λ (f : File). f.0) (take l.file-index l.files);
      rows : l.all.rows ≡ map (path_rows l.run.rules.now) l.all.entries;
      texts : AllByRecursion HasText l.all.entries;
      looked : LooksAtAll t u.asked l.run.rules.now l.run.found.now (take l.file-index l.files);
      named : NamesAreAskedAt t l.run.rules.now l.run.found.now (take l.file-index l.files) l.all.entries;
    }
