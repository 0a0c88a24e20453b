use Rattle.std.proofs.Common.{◌≡◌, ◌+◌, length, map, not}
use Rattle.std.specs.List.{AllByRecursion}
use Rattle.pj_cached_files.specs.Gathered.{HasText}
use Rattle.pj_cached_files.specs.LeftFiles.{path_rows, picked}
use Rattle.pj_fitting.specs.Left.{File}
use Rattle.pj_shared_files.specs.Gathering.{entries_of, flags_of, ran_of}
use Rattle.pj_shared_files.proofs.gathering.gather.Given as goal

abbrev pub invariant-loop-left : goal.invariant-loop-left
invariant-loop-left l = record {
  place : l.place ≡ length l.yielded;
  count : l.place + length l.left-iterator.rest.items ≡ length l.fn.made.items;
  entries : l.all.entries ≡ entries_of l.files l.yielded;
  rows : l.all.rows ≡ map (path_rows l.run.rules.now) l.all.entries;
  reused : l.all.reused ≡ picked (flags_of l.yielded) (map (λ (file : File). file.0) l.files);
  analysed : l.all.analysed ≡ picked (map not (flags_of l.yielded)) (map (λ (file : File). file.0) l.files);
  ran : l.all.ran ≡ ran_of l.files l.yielded;
  texts : AllByRecursion HasText l.all.entries;
}
