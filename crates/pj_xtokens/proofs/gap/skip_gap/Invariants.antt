use Rattle.std.proofs.Common.{◌≤◌, List, ℕ, length}
use denote.Shadow.{shadow}
use denote.Text.{Utf8}
use Rattle.std.specs.Str.{chars}
use Rattle.pj_xtokens.specs.Gaps.{Past}
use Rattle.pj_xtokens.proofs.gap.skip_gap.Given as goal

abbrev pub invariant-loop-behind : goal.invariant-loop-behind
invariant-loop-behind l = record {
  is_text : shadow (Utf8 l.rest);
  shorter : length l.rest ≤ length l.text;
  past : (body : List ℕ) → Past (chars l.rest) body → Past (chars l.text) body;
}

abbrev pub decreases-loop-behind : goal.decreases-loop-behind
decreases-loop-behind l = length l.rest
