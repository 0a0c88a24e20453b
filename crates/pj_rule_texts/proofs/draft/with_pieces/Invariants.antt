use Rattle.std.proofs.Common.{◌≡◌}
use Rattle.pj_rule_texts.specs.Rules.{with_pieces}
use Rattle.pj_rule_texts.proofs.draft.with_pieces.Given as goal

abbrev pub invariant-loop-piece : goal.invariant-loop-piece
invariant-loop-piece l = with_pieces l.is_reference l.draft l.piece-iterator.rest.items ≡ with_pieces l.is_reference l.fn.draft l.fn.pieces.items
