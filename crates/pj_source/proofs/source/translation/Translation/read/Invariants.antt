use Rattle.std.proofs.Common.{◌+◌, ◌≤◌, length, string_len}
use denote.Text.{Utf8}
use denote.Shadow.{shadow}
use Rattle.std.specs.Str.{chars}
use Rattle.pj_source.specs.Translating.{GoesOn}
use Rattle.pj_source.proofs.source.translation.Translation.read.Given as goal

abbrev pub invariant-loop-c : goal.invariant-loop-c
invariant-loop-c l = record {
  is_text : shadow (Utf8 l.rest);
  goes_on : GoesOn l.fn.self.place (chars l.text) l.self (chars l.rest) (length l.rest);
  len : string_len l.self.text + length l.rest ≤ string_len l.fn.self.text + length l.text;
}

abbrev pub decreases-loop-c : goal.decreases-loop-c
decreases-loop-c l = length l.rest
