use Rattle.std.proofs.Common.{length}
use denote.Shadow.{shadow}
use denote.Text.{Utf8}
use Rattle.std.specs.Str.{chars}
use Rattle.pj_markup.specs.Seen.{state_of}
use Rattle.pj_markup.proofs.Fronts.{IsRead}
use Rattle.pj_markup.proofs.reading.read.Given as goal

abbrev pub invariant-loop-c : goal.invariant-loop-c
invariant-loop-c l = record { is_text : shadow (Utf8 l.rest); read : IsRead (chars l.text) (chars l.rest) (state_of l.reader) }

abbrev pub decreases-loop-c : goal.decreases-loop-c
decreases-loop-c l = length l.rest
