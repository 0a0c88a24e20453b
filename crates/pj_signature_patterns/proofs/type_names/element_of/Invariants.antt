use Rattle.std.proofs.Common.{◌≡◌, length}
use denote.Text.{Utf8}
use denote.Shadow.{shadow}
use Rattle.pj_signature_patterns.specs.TypeNames.{element_of}
use Rattle.pj_signature_patterns.proofs.type_names.element_of.Given as goal

abbrev pub invariant-loop-component : goal.invariant-loop-component
invariant-loop-component l = record {
  text : shadow (Utf8 l.rest);
  same : element_of l.text ≡ element_of l.rest;
}

abbrev pub decreases-loop-component : goal.decreases-loop-component
decreases-loop-component l = length l.rest
