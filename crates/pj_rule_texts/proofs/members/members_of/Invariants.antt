use Rattle.std.proofs.Common.{◌≡◌, ◌++◌, length}
use Rattle.std.specs.List.{slice_split}
use denote.Text.{Utf8}
use denote.Shadow.{shadow}
use Rattle.pj_rule_texts.specs.Values.{is_comma, members_of}
use Rattle.pj_rule_texts.proofs.members.members_of.Given as goal

abbrev pub invariant-loop-member : goal.invariant-loop-member
invariant-loop-member l = record {
  text : shadow (Utf8 l.left);
  parts : members_of l.text ≡ l.members ++ slice_split is_comma l.left;
}

abbrev pub decreases-loop-member : goal.decreases-loop-member
decreases-loop-member l = length l.left
