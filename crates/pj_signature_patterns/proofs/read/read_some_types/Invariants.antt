use Rattle.std.proofs.Common.{◌≡◌, length}
use denote.Text.{Utf8}
use denote.Shadow.{shadow}
use Rattle.pj_signature_patterns.proofs.Listed.{pieces, types_behind}
use Rattle.pj_signature_patterns.specs.Reading.{read_types}
use Rattle.pj_signature_patterns.proofs.read.read_some_types.Given as goal

abbrev pub invariant-loop-piece : goal.invariant-loop-piece
invariant-loop-piece l = record {
  text : shadow (Utf8 l.left);
  types : read_types (pieces l.text) ≡ types_behind l.types (read_types (pieces l.left));
}

abbrev pub decreases-loop-piece : goal.decreases-loop-piece
decreases-loop-piece l = length l.left
