use Rattle.std.proofs.Common.{◌≡◌, drop}
use Rattle.pj_left_cache.specs.Said.{with_groups}
use Rattle.pj_left_cache.proofs.saying.note_groups.Given as goal

abbrev pub invariant-loop-item : goal.invariant-loop-item
invariant-loop-item l = with_groups l.held.entries (drop l.item-index l.results) ≡ with_groups l.fn.held.entries l.results
