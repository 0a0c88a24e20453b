use Rattle.std.proofs.Common.{◌≡◌, drop}
use Rattle.pj_signatures.specs.Names.{are_names}
use Rattle.pj_signatures.proofs.Pieces.{names_from}
use Rattle.pj_signatures.proofs.names.are_names.Given as goal

abbrev pub invariant-loop-byte : goal.invariant-loop-byte
invariant-loop-byte l = are_names l.signs l.text ≡ names_from l.signs l.begun (drop l.byte-index l.byte-items)
