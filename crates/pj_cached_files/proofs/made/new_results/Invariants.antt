use Rattle.std.proofs.Common.{◌≡◌, ◌+◌, ◌++◌, drop, length}
use Rattle.std.specs.List.{All}
use Rattle.pj_cache.specs.declared.cache.CachedResult.{CachedResult}
use Rattle.pj_workers.specs.Chosen.{chosen}
use Rattle.pj_cached_files.specs.Made.{IsClassText, new_results}
use Rattle.pj_cached_files.proofs.made.new_results.Given as goal

abbrev pub invariant-loop-run : goal.invariant-loop-run
invariant-loop-run l = record {
  value : l.made ++ new_results (chosen (drop l.place l.which) l.keys) l.run-iterator.rest.items ≡ new_results (chosen l.which l.keys) l.fn.runs;
  count : l.place + length l.run-iterator.rest.items ≡ length l.fn.runs;
  classes : All (λ (one : CachedResult). All IsClassText one.names) l.made;
}
