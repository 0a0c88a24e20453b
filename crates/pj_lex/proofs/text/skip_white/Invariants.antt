use Rattle.std.proofs.Common.{◌≡◌, length}
use denote.Shadow.{shadow}
use denote.Text.{Utf8}
use Rattle.std.specs.Str.{chars}
use Rattle.pj_lex.specs.Characters.{is_white}
use Rattle.pj_lex.specs.Scanning.{past_run}
use Rattle.pj_lex.proofs.text.skip_white.Given as goal

abbrev pub invariant-loop-c : goal.invariant-loop-c
invariant-loop-c l = record { is_text : shadow (Utf8 l.rest); same : past_run is_white (chars l.text) ≡ past_run is_white (chars l.rest) }

abbrev pub decreases-loop-c : goal.decreases-loop-c
decreases-loop-c l = length (chars l.rest)
