use Rattle.std.proofs.Common.{drop}
use Rattle.pj_ll.proofs.Pieces.{IsReading}
use Rattle.pj_ll.proofs.reading.production_of.Given as goal

abbrev pub invariant-loop-piece : goal.invariant-loop-piece
invariant-loop-piece l = IsReading l.behind (drop l.piece-index l.behind) l.symbols.items l.on.items l.at_end
