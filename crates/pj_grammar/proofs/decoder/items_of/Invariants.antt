use Rattle.std.proofs.Common.{◌≡◌, ◌≤◌, length, map, reverse, drop}
use Rattle.pj_peg_grammar.specs.Form.{form_of}
use Rattle.pj_grammar.specs.Piece.{decoded}
use Rattle.pj_grammar.proofs.decoder.items_of.Given as goal

abbrev pub invariant-loop-from : goal.invariant-loop-from
invariant-loop-from l = record {
  within : l.from ≤ length l.pieces;
  same : map form_of (reverse l.stack.items) ≡ decoded (drop l.from l.pieces);
}

abbrev pub decreases-loop-from : goal.decreases-loop-from
decreases-loop-from l = l.from
