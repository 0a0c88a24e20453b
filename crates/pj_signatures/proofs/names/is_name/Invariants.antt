use Rattle.std.proofs.Common.{◌≡◌, drop}
use Rattle.std.specs.List.{list_all}
use Rattle.pj_signatures.specs.Names.{is_none_of}
use Rattle.pj_signatures.proofs.names.is_name.Given as goal

abbrev pub invariant-loop-byte : goal.invariant-loop-byte
invariant-loop-byte l = list_all (is_none_of l.signs) l.byte-items ≡ list_all (is_none_of l.signs) (drop l.byte-index l.byte-items)
