use Rattle.std.proofs.Common.{◌≡◌, drop}
use Rattle.pj_left_cache.specs.Missing.{with_results}
use Rattle.pj_left_cache.proofs.missing.note_results.Given as goal

abbrev pub invariant-loop-item : goal.invariant-loop-item
invariant-loop-item l = with_results l.held.keys (drop l.item-index l.results) ≡ with_results l.fn.held.keys l.results
