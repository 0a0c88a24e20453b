use Rattle.std.proofs.Common.{◌≡◌, length}
use denote.Text.{Utf8}
use denote.Shadow.{shadow}
use Rattle.pj_signature_patterns.specs.TypeNames.{is_qualified}
use Rattle.pj_signature_patterns.proofs.type_names.is_qualified.Given as goal

abbrev pub invariant-loop-part : goal.invariant-loop-part
invariant-loop-part l = record {
  text : shadow (Utf8 l.left);
  same : is_qualified l.text ≡ is_qualified l.left;
}

abbrev pub decreases-loop-part : goal.decreases-loop-part
decreases-loop-part l = length l.left
