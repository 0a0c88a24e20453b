use Rattle.std.proofs.Common.{◌≤◌, ◌+◌, ℕ, List, length}
use denote.Shadow.{shadow}
use denote.Text.{Utf8}
use Rattle.std.specs.Str.{chars}
use Rattle.pj_xtokens.specs.Gaps.{Comment}
use Rattle.pj_xtokens.proofs.gap.past_comment.Given as goal

abbrev pub invariant-loop-further : goal.invariant-loop-further
invariant-loop-further l = record {
  is_text : shadow (Utf8 l.rest);
  room : l.open + length l.rest ≤ length l.inside;
  onward : (t : List ℕ) → Comment l.open (chars l.rest) t → Comment 0 (chars l.inside) t;
  back : (t : List ℕ) → Comment 0 (chars l.inside) t → Comment l.open (chars l.rest) t;
}

abbrev pub decreases-loop-further : goal.decreases-loop-further
decreases-loop-further l = length l.rest
