use Rattle.std.proofs.Common.{◌≡◌, drop}
use Rattle.pj_format.specs.Format.{first}
use Rattle.pj_format.specs.Fields.{each}
use Rattle.pj_format.proofs.Loops.{with_front}
use Rattle.pj_cache_format.specs.FormatTwo.{key_rows}
use Rattle.pj_cache_reading.proofs.results.group_of.Given as goal

abbrev pub invariant-loop-place : goal.invariant-loop-place
invariant-loop-place l = with_front l.list.items (first (each (key_rows l.keys) (drop l.place-index l.places)) l.bytes l.from) ≡ first (each (key_rows l.keys) l.places) l.bytes l.at
