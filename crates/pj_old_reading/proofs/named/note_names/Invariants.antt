use Rattle.std.proofs.Common.{◌≡◌, drop}
use Rattle.pj_cache_format.specs.FormatTwo.{with_more}
use Rattle.pj_old_reading.proofs.named.note_names.Given as goal

abbrev pub invariant-loop-name : goal.invariant-loop-name
invariant-loop-name l = with_more l.held.keys (drop l.name-index l.names) ≡ with_more l.fn.held.keys l.names
