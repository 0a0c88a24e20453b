use Rattle.std.proofs.Common.{◌≡◌, ◌%◌}
use lib.ListN.{take}
use Rattle.std.specs.Prelude.{sum}
use Rattle.pj_table.proofs.name_part.part_of.Given as goal

abbrev pub invariant-loop-byte : goal.invariant-loop-byte
invariant-loop-byte l = l.sum ≡ sum (take l.byte-index l.bytes) % 64
