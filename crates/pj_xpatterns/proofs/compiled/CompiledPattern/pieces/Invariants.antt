use Rattle.std.proofs.Common.{◌≡◌, ◌++◌}
use Rattle.pj_xpatterns.proofs.Pieces.{texts_left}
use Rattle.pj_xpatterns.proofs.compiled.CompiledPattern.pieces.Given as goal

abbrev pub invariant-loop-piece : goal.invariant-loop-piece
invariant-loop-piece l = l.pieces ++ texts_left l.piece-iterator ≡ texts_left l.initial.piece-iterator
