use Rattle.std.proofs.Common.{◌≡◌, drop}
use Rattle.pj_left_cache.specs.Said.{with_group}
use Rattle.pj_left_cache.proofs.saying.note_group.Given as goal

abbrev pub invariant-loop-row : goal.invariant-loop-row
invariant-loop-row l = with_group l.held.entries (drop l.row-index l.group) ≡ with_group l.fn.held.entries l.group
