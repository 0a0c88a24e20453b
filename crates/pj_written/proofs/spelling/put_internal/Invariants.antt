use Rattle.std.proofs.Common.{◌≡◌, ◌++◌, length}
use denote.Text.{Utf8}
use denote.Shadow.{shadow}
use Rattle.pj_written.specs.Spelling.{internal}
use Rattle.pj_written.proofs.spelling.put_internal.Given as goal

abbrev pub invariant-loop-part : goal.invariant-loop-part
invariant-loop-part l = record {
  left : shadow (Utf8 l.left);
  made : l.text ++ internal l.left ≡ l.fn.text ++ internal l.name;
}

abbrev pub decreases-loop-part : goal.decreases-loop-part
decreases-loop-part l = length l.left
