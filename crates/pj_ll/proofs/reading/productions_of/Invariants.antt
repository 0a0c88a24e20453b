use Rattle.std.proofs.Common.{◌≡◌, ◌++◌, map, drop}
use Rattle.pj_ll.specs.Grammar.{entries_of}
use Rattle.pj_ll.specs.Entries.{entry_of}
use Rattle.pj_ll.proofs.reading.productions_of.Given as goal

abbrev pub invariant-loop-at : goal.invariant-loop-at
invariant-loop-at l = map entry_of l.productions.items ++ entries_of (drop l.at l.pieces) ≡ entries_of l.pieces
