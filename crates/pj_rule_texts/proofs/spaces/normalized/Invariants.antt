use Rattle.std.proofs.Common.{◌≡◌, length}
use Rattle.std.specs.Str.{chars}
use denote.Text.{Utf8}
use denote.Shadow.{shadow}
use Rattle.pj_rule_texts.specs.Values.{normalized}
use Rattle.pj_rule_texts.proofs.Spacing.{whole}
use Rattle.pj_rule_texts.proofs.spaces.normalized.Given as goal

abbrev pub invariant-loop-c : goal.invariant-loop-c
invariant-loop-c l = record {
  text : shadow (Utf8 l.rest);
  whole : normalized l.text ≡ whole l.made l.is_behind_space (chars l.rest);
}

abbrev pub decreases-loop-c : goal.decreases-loop-c
decreases-loop-c l = length l.rest
