use Rattle.std.proofs.Common.{◌≡◌, ◌++◌, length, false}
use Rattle.std.specs.List.{list_any}
use denote.Text.{Utf8}
use denote.Shadow.{shadow}
use Rattle.pj_settings.specs.Values.{cut_at, is_empty}
use Rattle.pj_settings.proofs.values.list_value.Given as goal

abbrev pub invariant-loop-piece : goal.invariant-loop-piece
invariant-loop-piece l = record {
  text : shadow (Utf8 l.left);
  cut : cut_at l.fn.mark l.fn.word ≡ l.names ++ cut_at l.fn.mark l.left;
  full : list_any is_empty l.names ≡ false;
}

abbrev pub decreases-loop-piece : goal.decreases-loop-piece
decreases-loop-piece l = length l.left
